use Rattle.reach_laws.proofs.Ways.{ways_are_mixes as law}
use Rattle.reach_laws.proofs.laws.ways_are_mixes.Goals as goal

pub returns : goal.returns
returns c = law
