use Rattle.json_lines.proofs.Printing.{lines_end_once as law}
use Rattle.json_lines.proofs.laws.lines_end_once.Goals as goal

pub returns : goal.returns
returns c = law
