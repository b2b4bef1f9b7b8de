use Rattle.calls_laws.proofs.Reaches.{no_line_no_reach as law}
use Rattle.calls_laws.proofs.laws.no_line_no_reach.Goals as goal

pub returns : goal.returns
returns c = law
