use Rattle.archive_script.proofs.GateLaws.{zero_means_passing as law}
use Rattle.archive_script.proofs.laws.zero_means_passing.Goals as goal

pub returns : goal.returns
returns c = law
