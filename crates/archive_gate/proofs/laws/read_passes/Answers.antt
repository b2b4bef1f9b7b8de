use Rattle.archive_gate.proofs.Passing.{read_passes}
use Rattle.archive_gate.proofs.laws.read_passes.Goals as goal

pub returns : goal.returns
returns c = read_passes
