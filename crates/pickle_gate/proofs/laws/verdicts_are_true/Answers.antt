use Rattle.pickle_gate.proofs.Verdicts.{verdicts_are_true as law}
use Rattle.pickle_gate.proofs.laws.verdicts_are_true.Goals as goal

pub returns : goal.returns
returns c = law
