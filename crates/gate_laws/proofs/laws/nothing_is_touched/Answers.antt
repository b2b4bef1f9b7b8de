use Rattle.gate_laws.proofs.Untouching.{nothing_is_touched as law}
use Rattle.gate_laws.proofs.laws.nothing_is_touched.Goals as goal

pub returns : goal.returns
returns c = law
