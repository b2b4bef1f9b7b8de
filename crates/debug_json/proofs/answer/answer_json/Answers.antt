-- The line is obeyed where the sink fails.
use Rattle.std.proofs.lemmas.Result.{err_from_is_err_and}
use Rattle.debug_json.proofs.Answering.{said_broke}
use Rattle.debug_json.proofs.Stepping.{said_told}
use Rattle.debug_json.proofs.answer.answer_json.Goals as goal

pub write_said-requires : goal.write_said-requires
write_said-requires g c = said_told _ _ _ _ c.obey-said.ensures

pub returns-in_err-write_said : goal.returns-in_err-write_said
returns-in_err-write_said g c =
    let p = err_from_is_err_and c.from_residual.result c.from_residual.ensures.1 in
    rw p.1 (said_broke _ _ _ _ _ c.obey-said.result _ c.obey-said.ensures c.write_said.ensures.reached c.in_err-write_said.ensures.line)
