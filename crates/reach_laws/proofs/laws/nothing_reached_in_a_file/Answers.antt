use Rattle.reach_laws.proofs.Filed.{nothing_reached_in_a_file as law}
use Rattle.reach_laws.proofs.laws.nothing_reached_in_a_file.Goals as goal

pub returns : goal.returns
returns c = law
