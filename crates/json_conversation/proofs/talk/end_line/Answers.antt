use Rattle.std.proofs.Common.{rules}
use Rattle.std.proofs.lemmas.Result.{err_from_is_err_and}
use Rattle.debug_json.specs.Lines.{answer_line}
use Rattle.json_conversation.proofs.Feeding.{line_ends, line_quits, line_breaks}
use Rattle.json_conversation.proofs.talk.end_line.Goals as goal

pub returns-then-quits-clause-feeds : goal.returns-then-quits-clause-feeds
returns-then-quits-clause-feeds g c = λ s old given w.
    line_quits _ _ _ _ _ _ _ _ _ _ _ w c.says-says.ensures (search rules) c.in_ok-refused.ensures c.end_line.ensures

pub returns-else-quits-clause-feeds : goal.returns-else-quits-clause-feeds
returns-else-quits-clause-feeds g c = λ s old given w.
    line_ends _ _ _ _ _ _ _ _ _ _ _ w c.says-says.ensures (search rules) c.in_ok-refused.ensures c.end_line.ensures

pub returns-in_err-refused-clause-feeds : goal.returns-in_err-refused-clause-feeds
returns-in_err-refused-clause-feeds g c = λ s old given w.
    let p = err_from_is_err_and c.from_residual.result c.from_residual.ensures.1 in
    rw p.1 (line_breaks _ _ _ _ _ _ _ _ _ _ w c.says-says.ensures c.in_err-refused.ensures)

pub returns-in_err-refused-clause-writes : goal.returns-in_err-refused-clause-writes
returns-in_err-refused-clause-writes g c =
    let p = err_from_is_err_and c.from_residual.result c.from_residual.ensures.1 in
    rw p.1 (answer_line c.in_err-refused.ensures.answer, c.in_err-refused.ensures.writes)

pub returns-then-quits-clause-writes : goal.returns-then-quits-clause-writes
returns-then-quits-clause-writes g c = (answer_line c.in_ok-refused.ensures.answer, c.in_ok-refused.ensures.writes)

pub returns-else-quits-clause-writes : goal.returns-else-quits-clause-writes
returns-else-quits-clause-writes g c = (answer_line c.in_ok-refused.ensures.answer, c.in_ok-refused.ensures.writes)
