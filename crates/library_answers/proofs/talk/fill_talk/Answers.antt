use Rattle.std.proofs.Common.{arith}
use Rattle.library_answers.specs.Answer.{IsTalkOf}
use Rattle.library_answers.proofs.Filled.{filled}
use Rattle.library_answers.proofs.talk.fill_talk.Goals as goal

pub returns-in-Ok : goal.returns-in-Ok
returns-in-Ok c = filled (IsTalkOf c.args.many c.args.loose c.args.bytes.now c.args.script.now) _ _ _ _ _ _ _ _ c.in-Ok.ensures c.as_slice.ensures.value (λ more. absurd (omega (arith, more, c.if-bytes-gt-LIMIT.false))) c.put.ensures
