use Rattle.calls_json.proofs.Whole.{whole_is_lines as law}
use Rattle.calls_json.proofs.laws.whole_is_lines.Goals as goal

pub returns : goal.returns
returns c = law
