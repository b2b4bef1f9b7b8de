use Rattle.pickle_loader.proofs.ByFrames.{nothing_beyond_by_frames as law}
use Rattle.pickle_loader.proofs.laws.nothing_beyond_by_frames.Goals as goal

pub returns : goal.returns
returns c = law
