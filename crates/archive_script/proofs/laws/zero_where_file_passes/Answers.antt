use Rattle.archive_script.proofs.GateLaws.{zero_where_file_passes as law}
use Rattle.archive_script.proofs.laws.zero_where_file_passes.Goals as goal

pub returns : goal.returns
returns c = law
