use Rattle.archive_gate.proofs.Nothing.{nothing_in_packed}
use Rattle.archive_gate.proofs.laws.nothing_in_packed.Goals as goal

pub returns : goal.returns
returns c = nothing_in_packed
