use Rattle.std.proofs.Common.{[], rules}
use Rattle.std.proofs.lemmas.Result.{err_from_is_err_and}
use Rattle.pickle_io.proofs.Devices.{Wrote-none}
use Rattle.pickle_script.proofs.Feeding.{line_ends, line_quits, line_breaks}
use Rattle.pickle_script.proofs.conversation.talk.end_line.Goals as goal

pub returns-then-quits-clause-feeds : goal.returns-then-quits-clause-feeds
returns-then-quits-clause-feeds g c = λ s old given w. line_quits _ _ _ _ _ _ _ w c.says-says.ensures (search rules)

pub returns-in_err-outcome-clause-feeds : goal.returns-in_err-outcome-clause-feeds
returns-in_err-outcome-clause-feeds g c = λ s old given w.
    let p = err_from_is_err_and c.from_residual.result c.from_residual.ensures.1 in
    rw p.1 (line_breaks _ _ _ _ _ _ _ _ _ _ w c.says-says.ensures c.in_err-outcome.ensures)

pub returns-clause-feeds : goal.returns-clause-feeds
returns-clause-feeds g c = λ s old given w. line_ends _ _ _ _ _ _ _ _ _ _ _ w c.says-says.ensures (search rules) c.in_ok-outcome.ensures c.end_line.ensures

pub returns-then-quits-clause-writes : goal.returns-then-quits-clause-writes
returns-then-quits-clause-writes g c = ([], Wrote-none _)

pub returns-in_err-outcome-clause-writes : goal.returns-in_err-outcome-clause-writes
returns-in_err-outcome-clause-writes g c =
    let p = err_from_is_err_and c.from_residual.result c.from_residual.ensures.1 in
    rw p.1 (c.in_err-outcome.ensures.text, c.in_err-outcome.ensures.writes)

pub returns-clause-writes : goal.returns-clause-writes
returns-clause-writes g c = (c.in_ok-outcome.ensures.text, c.in_ok-outcome.ensures.writes)
