use Rattle.assembly_labels.proofs.Kept.{bytes_have_none as law}
use Rattle.assembly_labels.proofs.laws.bytes_have_no_labels.Goals as goal

pub returns : goal.returns
returns c = law
