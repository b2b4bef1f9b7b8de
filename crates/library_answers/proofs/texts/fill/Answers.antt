use Rattle.library_answers.specs.Answer.{IsTextOf}
use Rattle.library_answers.proofs.Filled.{filled}
use Rattle.library_answers.proofs.texts.fill.Goals as goal

pub returns-in-Ok : goal.returns-in-Ok
returns-in-Ok c = filled (IsTextOf c.args.text c.args.many c.args.loose c.args.bytes.now) _ _ _ _ _ _ _ _ c.in-Ok.ensures.whole c.as_slice.ensures.value (λ more. let large = c.in-Ok.ensures.large.1 more in absurd cc) c.put.ensures
