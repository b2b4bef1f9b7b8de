use Rattle.gate_json.proofs.Readable.{verdict_lines_read_back, answers_are_lines}
use Rattle.gate_json.proofs.laws.verdict_lines_read_back.Goals as goal

pub returns-clause-lines : goal.returns-clause-lines
returns-clause-lines c = verdict_lines_read_back

pub returns-clause-answers : goal.returns-clause-answers
returns-clause-answers c = answers_are_lines
