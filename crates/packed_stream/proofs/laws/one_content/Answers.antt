use Rattle.packed_stream.proofs.Contents.{one_content}
use Rattle.packed_stream.proofs.laws.one_content.Goals as goal

pub returns : goal.returns
returns c = one_content
