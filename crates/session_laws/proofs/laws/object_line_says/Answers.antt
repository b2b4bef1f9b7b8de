use Rattle.session_laws.proofs.Says.{object_says}
use Rattle.session_laws.proofs.laws.object_line_says.Goals as goal

pub returns : goal.returns
returns c = object_says
