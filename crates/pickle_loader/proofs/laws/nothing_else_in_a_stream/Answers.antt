use Rattle.pickle_loader.proofs.CLoads.{nothing_else_in_a_stream as law}
use Rattle.pickle_loader.proofs.laws.nothing_else_in_a_stream.Goals as goal

pub returns : goal.returns
returns c = law
