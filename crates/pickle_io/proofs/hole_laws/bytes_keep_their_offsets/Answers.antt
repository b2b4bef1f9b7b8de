use Rattle.pickle_io.proofs.Kept.{bytes_keep_their_offsets as law}
use Rattle.pickle_io.proofs.hole_laws.bytes_keep_their_offsets.Goals as goal

pub returns : goal.returns
returns c = law
