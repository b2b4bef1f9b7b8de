use Rattle.gate_laws.proofs.Uses.{uses_are_granted as law}
use Rattle.gate_laws.proofs.laws.uses_are_granted.Goals as goal

pub returns : goal.returns
returns c = law
