use Rattle.calls_laws.proofs.TextLines.{text_is_its_lines as law}
use Rattle.calls_laws.proofs.laws.text_is_its_lines.Goals as goal

pub returns : goal.returns
returns c = law
