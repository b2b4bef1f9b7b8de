use Rattle.pickle_gate.proofs.Verdicts.{one_verdict as law}
use Rattle.pickle_gate.proofs.laws.one_verdict.Goals as goal

pub returns : goal.returns
returns c = law
