use Rattle.std.proofs.Common.{refl}
use Rattle.program_answers.specs.Gated.{IsNoListAnswer}
use Rattle.program_answers.proofs.AtDevice.{says_took}
use Rattle.program_answers.proofs.gate.answer_no_list.Goals as goal

pub returns-clause-took : goal.returns-clause-took
returns-clause-took g c =
    let h = c.write_out.ensures in
    (says_took (IsNoListAnswer c.args.format c.args.line) _ _ _ _ _ _ _ _ _ c.write_no_list-written.ensures h.passed h.calm (λ e. rw (h.untouched e) refl) h.failed refl refl c.requires.handed h.handed).0

pub returns-clause-last : goal.returns-clause-last
returns-clause-last g c =
    let h = c.write_out.ensures in
    (says_took (IsNoListAnswer c.args.format c.args.line) _ _ _ _ _ _ _ _ _ c.write_no_list-written.ensures h.passed h.calm (λ e. rw (h.untouched e) refl) h.failed refl refl c.requires.handed h.handed).1
