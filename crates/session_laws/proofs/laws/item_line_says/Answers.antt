use Rattle.session_laws.proofs.Says.{item_says}
use Rattle.session_laws.proofs.laws.item_line_says.Goals as goal

pub returns : goal.returns
returns c = item_says
