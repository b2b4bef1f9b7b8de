use Rattle.reach_laws.proofs.Framed.{nothing_reached_by_frames as law}
use Rattle.reach_laws.proofs.laws.nothing_reached_by_frames.Goals as goal

pub returns : goal.returns
returns c = law
