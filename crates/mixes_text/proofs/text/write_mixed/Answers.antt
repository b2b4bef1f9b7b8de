use Rattle.pickle_further.proofs.Pieces.{stopped, nothing_written}
use Rattle.mixes_text.proofs.text.write_mixed.Goals as goal

pub returns-in_err-places : goal.returns-in_err-places
returns-in_err-places g c = stopped _ _ _ _ _ c.from_residual.ensures.1 (nothing_written _ _)
