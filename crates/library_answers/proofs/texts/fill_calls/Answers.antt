use Rattle.std.proofs.Common.{arith}
use Rattle.library_answers.specs.Asked.{holes_of}
use Rattle.library_answers.specs.Answer.{IsCallsOf}
use Rattle.library_answers.proofs.Filled.{filled}
use Rattle.library_answers.proofs.texts.fill_calls.Goals as goal

pub returns-in-Ok : goal.returns-in-Ok
returns-in-Ok c = filled (IsCallsOf c.args.detail (holes_of c.args.given.now) c.args.pickles c.args.bytes.now) _ _ _ _ _ _ _ _ c.in-Ok.ensures c.as_slice.ensures.value (λ more. absurd (omega (arith, more, c.if-bytes-gt-LIMIT.false))) c.put.ensures
