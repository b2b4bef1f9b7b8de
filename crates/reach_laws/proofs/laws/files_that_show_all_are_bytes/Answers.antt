use Rattle.reach_laws.proofs.Lossless.{files_that_show_all_are_bytes as law}
use Rattle.reach_laws.proofs.laws.files_that_show_all_are_bytes.Goals as goal

pub returns : goal.returns
returns c = law
