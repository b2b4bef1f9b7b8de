use Rattle.gate_laws.proofs.States.{makers_stay as law}
use Rattle.gate_laws.proofs.laws.makers_stay.Goals as goal

pub returns : goal.returns
returns c = law
