use Rattle.calls_laws.proofs.FirstLines.{first_lines_come_first as law}
use Rattle.calls_laws.proofs.laws.first_lines_come_first.Goals as goal

pub returns : goal.returns
returns c = law
