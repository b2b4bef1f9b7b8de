use Rattle.pickle_loader.proofs.FindClass.{found_is_said as law}
use Rattle.pickle_loader.proofs.laws.found_is_said.Goals as goal

pub returns : goal.returns
returns c = law
