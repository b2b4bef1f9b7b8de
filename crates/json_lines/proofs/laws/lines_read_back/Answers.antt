use Rattle.json_lines.proofs.Trees.{lines_read_back as law}
use Rattle.json_lines.proofs.laws.lines_read_back.Goals as goal

pub returns : goal.returns
returns c = law
