use Rattle.std.proofs.Common.{refl}
use Rattle.program_answers.specs.Compared.{IsSameAnswer}
use Rattle.program_answers.proofs.AtDevice.{says_took, comparison_took}
use Rattle.program_answers.proofs.compared.answer_comparison.Goals as goal

pub returns-clause-took : goal.returns-clause-took
returns-clause-took g c =
    let h = c.write_out.ensures in
    comparison_took c.args.format c.args.many c.args.one.now c.args.other.now _ _ _
    (says_took (IsSameAnswer c.args.format c.args.many c.args.one.now c.args.other.now) _ _ _ _ _ _ _ _ _ c.write_answer-written.ensures h.passed h.calm (λ e. rw (h.untouched e) refl)
    h.failed refl refl c.requires.handed h.handed)
