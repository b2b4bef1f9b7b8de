use Rattle.gate_laws.proofs.Law.{only_what_is_allowed as law}
use Rattle.gate_laws.proofs.laws.only_what_is_allowed.Goals as goal

pub returns : goal.returns
returns c = law
