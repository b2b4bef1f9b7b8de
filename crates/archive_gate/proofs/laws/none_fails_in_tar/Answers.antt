use Rattle.archive_gate.proofs.Tars.{none_fails_in_tar}
use Rattle.archive_gate.proofs.laws.none_fails_in_tar.Goals as goal

pub returns : goal.returns
returns c = none_fails_in_tar
