use Rattle.assembly_labels.proofs.Kept.{stay as law}
use Rattle.assembly_labels.proofs.laws.bytes_stay.Goals as goal

pub returns : goal.returns
returns c = law
