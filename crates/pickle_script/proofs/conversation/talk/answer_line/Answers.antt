use Rattle.std.proofs.lemmas.Result.{err_from_is_err_and}
use Rattle.pickle_script.proofs.OneLine.{line_answered, line_unanswered}
use Rattle.pickle_script.proofs.conversation.talk.answer_line.Goals as goal

pub returns-in_err-outcome : goal.returns-in_err-outcome
returns-in_err-outcome g c =
    let p = err_from_is_err_and c.from_residual.result c.from_residual.ensures.1 in
    rw p.1 (line_unanswered _ _ _ _ _ _ _ _ c.read_command-says.ensures c.in_err-outcome.ensures)

pub returns : goal.returns
returns g c = line_answered _ _ _ _ _ _ _ _ c.read_command-says.ensures c.in_ok-outcome.ensures c.is_refused.ensures
