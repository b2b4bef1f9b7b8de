use Rattle.archive_gate.proofs.Nothing.{nothing_in_arrays}
use Rattle.archive_gate.proofs.laws.nothing_in_arrays.Goals as goal

pub returns : goal.returns
returns c = nothing_in_arrays
