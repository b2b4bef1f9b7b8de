use Rattle.pickle_further.proofs.Pieces.{stopped, memory_first}
use Rattle.pickle_further.proofs.parts.write_from.Goals as goal

pub returns-in_err-gone : goal.returns-in_err-gone
returns-in_err-gone g c = stopped _ _ _ _ _ c.from_residual.ensures.1 (memory_first _ _ _ c.in_err-gone.ensures.err)
