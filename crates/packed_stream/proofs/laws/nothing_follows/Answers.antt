use Rattle.packed_stream.proofs.Contents.{nothing_follows}
use Rattle.packed_stream.proofs.laws.nothing_follows.Goals as goal

pub returns : goal.returns
returns c = nothing_follows
