use Rattle.gate_laws.proofs.LawC.{only_what_is_allowed_in_c as law}
use Rattle.gate_laws.proofs.laws.only_what_is_allowed_in_c.Goals as goal

pub returns : goal.returns
returns c = law
