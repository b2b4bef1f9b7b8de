use Rattle.gate_laws.proofs.States.{states_come_last as law}
use Rattle.gate_laws.proofs.laws.states_come_last.Goals as goal

pub returns : goal.returns
returns c = law
