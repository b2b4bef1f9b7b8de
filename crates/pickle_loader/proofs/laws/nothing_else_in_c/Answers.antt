use Rattle.pickle_loader.proofs.CLoads.{nothing_else_in_c as law}
use Rattle.pickle_loader.proofs.laws.nothing_else_in_c.Goals as goal

pub returns : goal.returns
returns c = law
