use Rattle.archive_gate.proofs.Tars.{by_header_passes}
use Rattle.archive_gate.proofs.laws.by_header_passes.Goals as goal

pub returns : goal.returns
returns c = by_header_passes
