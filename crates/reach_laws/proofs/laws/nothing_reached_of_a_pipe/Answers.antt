use Rattle.reach_laws.proofs.Filed.{nothing_reached_of_a_pipe as law}
use Rattle.reach_laws.proofs.laws.nothing_reached_of_a_pipe.Goals as goal

pub returns : goal.returns
returns c = law
