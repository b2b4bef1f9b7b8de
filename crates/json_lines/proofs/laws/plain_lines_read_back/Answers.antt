use Rattle.json_lines.proofs.Fields.{plain_lines_read_back as law}
use Rattle.json_lines.proofs.laws.plain_lines_read_back.Goals as goal

pub returns : goal.returns
returns c = law
