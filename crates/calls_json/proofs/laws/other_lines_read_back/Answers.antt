use Rattle.calls_json.proofs.LastReadable.{ending_lines_read_back, other_lines_read_back}
use Rattle.calls_json.proofs.laws.other_lines_read_back.Goals as goal

pub returns-clause-ends : goal.returns-clause-ends
returns-clause-ends c = ending_lines_read_back

pub returns-clause-others : goal.returns-clause-others
returns-clause-others c = other_lines_read_back
