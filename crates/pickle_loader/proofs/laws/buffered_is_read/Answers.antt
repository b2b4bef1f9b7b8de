use Rattle.pickle_loader.proofs.Buffers.{buffered_is_read as law}
use Rattle.pickle_loader.proofs.laws.buffered_is_read.Goals as goal

pub returns : goal.returns
returns c = law
