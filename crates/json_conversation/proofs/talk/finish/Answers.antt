use Rattle.std.proofs.Common.{[], rules}
use Rattle.std.proofs.lemmas.Result.{err_from_is_err_and}
use Rattle.pickle_io.proofs.Devices.{Wrote-none, Wrote-trans, Broke-after}
use Rattle.debug_json.specs.Lines.{answer_line}
use Rattle.json_conversation.proofs.Endings.{ends_at_line, ends_after_last, breaks_in_last}
use Rattle.json_conversation.proofs.Flushes.{line_flushed, line_unflushed}
use Rattle.json_conversation.proofs.talk.finish.Goals as goal

pub returns-then-is_empty-clause-ends : goal.returns-then-is_empty-clause-ends
returns-then-is_empty-clause-ends g c = λ s old given w. ends_at_line _ _ _ _ _ _ _ w (search rules) c.status.ensures

pub returns-in_err-refused-clause-ends : goal.returns-in_err-refused-clause-ends
returns-in_err-refused-clause-ends g c = λ s old given w.
    let p = err_from_is_err_and c.from_residual.result c.from_residual.ensures.1 in
    rw p.1 (breaks_in_last _ _ _ _ _ _ _ _ _ _ w (search rules) c.says.ensures c.in_err-refused.ensures)

pub returns-in_err-flush-clause-ends : goal.returns-in_err-flush-clause-ends
returns-in_err-flush-clause-ends g c = λ s old given w.
    let p = err_from_is_err_and c.from_residual-in_err-flush.result c.from_residual-in_err-flush.ensures.1 in
    rw p.1 (breaks_in_last _ _ _ _ _ _ _ _ _ _ w (search rules) c.says.ensures (line_unflushed _ _ _ _ _ _ _ _ c.in_ok-refused.ensures c.in_err-flush.ensures.writes))

pub returns-clause-ends : goal.returns-clause-ends
returns-clause-ends g c = λ s old given w. ends_after_last _ _ _ _ _ _ _ _ _ _ _ _ w (search rules) c.says.ensures (line_flushed _ _ _ _ _ _ _ c.in_ok-refused.ensures c.in_ok-flush.ensures.writes) c.end_line.ensures c.status-2.ensures

pub returns-then-is_empty-clause-writes : goal.returns-then-is_empty-clause-writes
returns-then-is_empty-clause-writes g c = ([], Wrote-none _)

pub returns-in_err-refused-clause-writes : goal.returns-in_err-refused-clause-writes
returns-in_err-refused-clause-writes g c =
    let p = err_from_is_err_and c.from_residual.result c.from_residual.ensures.1 in
    rw p.1 (answer_line c.in_err-refused.ensures.answer, c.in_err-refused.ensures.writes)

pub returns-in_err-flush-clause-writes : goal.returns-in_err-flush-clause-writes
returns-in_err-flush-clause-writes g c =
    let p = err_from_is_err_and c.from_residual-in_err-flush.result c.from_residual-in_err-flush.ensures.1 in
    rw p.1 (_, Broke-after _ _ _ _ _ c.in_ok-refused.ensures.writes c.in_err-flush.ensures.writes)

pub returns-clause-writes : goal.returns-clause-writes
returns-clause-writes g c = (_, Wrote-trans _ _ _ _ _ c.in_ok-refused.ensures.writes c.in_ok-flush.ensures.writes)
