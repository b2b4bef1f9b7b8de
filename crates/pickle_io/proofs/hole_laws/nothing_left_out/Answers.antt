use Rattle.pickle_io.proofs.Kept.{nothing_left_out as law}
use Rattle.pickle_io.proofs.hole_laws.nothing_left_out.Goals as goal

pub returns : goal.returns
returns c = law
