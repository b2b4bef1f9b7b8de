use Rattle.std.proofs.Common.{refl}
use Rattle.program_answers.specs.Listed.{IsMembersAnswer}
use Rattle.program_answers.proofs.AtDevice.{says_took}
use Rattle.program_answers.proofs.members.answer_members.Goals as goal

pub returns-clause-took : goal.returns-clause-took
returns-clause-took g c =
    let h = c.write_out.ensures in
    let t = says_took (IsMembersAnswer c.args.format c.args.bytes.now) _ _ _ _ _ _ _ _ _ c.write_answer-written.ensures h.passed h.calm (λ e. rw (h.untouched e) refl) h.failed refl refl c.requires h.handed in
    record { took = t.0; last = t.1 }
