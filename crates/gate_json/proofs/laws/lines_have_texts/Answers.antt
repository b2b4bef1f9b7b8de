use Rattle.gate_json.proofs.Passing.{lines_have_texts as law}
use Rattle.gate_json.proofs.laws.lines_have_texts.Goals as goal

pub returns : goal.returns
returns c = law
