use Rattle.reach_laws.proofs.Mixes.{nothing_reached as law}
use Rattle.reach_laws.proofs.laws.nothing_reached.Goals as goal

pub returns : goal.returns
returns c = law
