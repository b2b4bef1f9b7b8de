use Rattle.gate_laws.proofs.Headline.{status_zero_permits as law}
use Rattle.gate_laws.proofs.laws.status_zero_permits.Goals as goal

pub returns : goal.returns
returns c = law
