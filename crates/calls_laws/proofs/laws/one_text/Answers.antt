use Rattle.calls_laws.proofs.Reaches.{one_text as law}
use Rattle.calls_laws.proofs.laws.one_text.Goals as goal

pub returns : goal.returns
returns c = law
