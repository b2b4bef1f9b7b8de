use Rattle.pickle_loader.proofs.ByFrames.{framed_is_bytes as law}
use Rattle.pickle_loader.proofs.laws.framed_is_bytes.Goals as goal

pub returns : goal.returns
returns c = law
