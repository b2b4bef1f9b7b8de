use Rattle.assembly_labels.proofs.Kept.{nothing_added as law}
use Rattle.assembly_labels.proofs.laws.labels_add_nothing.Goals as goal

pub returns : goal.returns
returns c = law
