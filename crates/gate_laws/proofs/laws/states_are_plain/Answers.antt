use Rattle.gate_laws.proofs.States.{states_are_plain as law}
use Rattle.gate_laws.proofs.laws.states_are_plain.Goals as goal

pub returns : goal.returns
returns c = law
