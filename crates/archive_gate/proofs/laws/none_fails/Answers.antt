use Rattle.archive_gate.proofs.Deciding.{none_fails}
use Rattle.archive_gate.proofs.laws.none_fails.Goals as goal

pub returns : goal.returns
returns c = none_fails
