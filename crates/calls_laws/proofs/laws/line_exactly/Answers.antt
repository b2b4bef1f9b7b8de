use Rattle.calls_laws.proofs.Exact.{line_exactly as law}
use Rattle.calls_laws.proofs.laws.line_exactly.Goals as goal

pub returns : goal.returns
returns c = law
