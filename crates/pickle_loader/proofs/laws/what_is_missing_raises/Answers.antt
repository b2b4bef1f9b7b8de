use Rattle.pickle_loader.proofs.Missing.{what_is_missing_raises as law}
use Rattle.pickle_loader.proofs.laws.what_is_missing_raises.Goals as goal

pub returns : goal.returns
returns c = law
