use Rattle.library_answers.specs.Answer.{IsAssemblyOf}
use Rattle.library_answers.proofs.Filled.{filled}
use Rattle.library_answers.proofs.assembled.fill_assembled.Goals as goal

pub returns-in-Ok : goal.returns-in-Ok
returns-in-Ok c = filled (IsAssemblyOf c.args.text.now) _ _ _ _ _ _ _ _ c.in-Ok.ensures.whole c.as_slice.ensures.value (λ more. let large = c.in-Ok.ensures.large.1 more in absurd cc) c.put.ensures
