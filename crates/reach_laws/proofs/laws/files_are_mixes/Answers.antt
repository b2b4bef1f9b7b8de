use Rattle.reach_laws.proofs.Filed.{files_are_mixes as law}
use Rattle.reach_laws.proofs.laws.files_are_mixes.Goals as goal

pub returns : goal.returns
returns c = law
