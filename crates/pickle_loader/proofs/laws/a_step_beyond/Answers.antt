use Rattle.pickle_loader.proofs.Steps.{a_step_beyond as law}
use Rattle.pickle_loader.proofs.laws.a_step_beyond.Goals as goal

pub returns : goal.returns
returns c = law
