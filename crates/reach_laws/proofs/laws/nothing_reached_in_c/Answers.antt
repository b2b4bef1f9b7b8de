use Rattle.reach_laws.proofs.InC.{nothing_reached_in_c as law}
use Rattle.reach_laws.proofs.laws.nothing_reached_in_c.Goals as goal

pub returns : goal.returns
returns c = law
