use Rattle.pickle_loader.proofs.CLoads.{one_load as law}
use Rattle.pickle_loader.proofs.laws.one_load.Goals as goal

pub returns : goal.returns
returns c = law
