use Rattle.pickle_further.proofs.Pieces.{stopped, memory_first}
use Rattle.mixes_text.proofs.text.write_if_mixed.Goals as goal

pub returns-in_err-first_mixed : goal.returns-in_err-first_mixed
returns-in_err-first_mixed g c = stopped _ _ _ _ _ c.from_residual.ensures.1 (memory_first _ _ _ c.in_err-first_mixed.ensures.err)
