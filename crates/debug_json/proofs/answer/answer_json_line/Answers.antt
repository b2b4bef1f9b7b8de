use Rattle.debug_json.proofs.Answering.{line_answered}
use Rattle.debug_json.proofs.answer.answer_json_line.Goals as goal

pub returns : goal.returns
returns g c = line_answered _ _ _ _ _ _ _ c.read_asked-says.ensures c.answer_json.ensures
