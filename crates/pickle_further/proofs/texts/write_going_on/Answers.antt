use Rattle.pickle_further.proofs.Pieces.{nothing_written, stopped}
use Rattle.pickle_further.proofs.texts.write_going_on.Goals as goal

pub returns-in_err-into_whole : goal.returns-in_err-into_whole
returns-in_err-into_whole g c = stopped _ _ _ _ _ c.from_residual.ensures.1 (nothing_written _ _)

pub returns : goal.returns
returns g c = rw (c.split_at.ensures.back, c.new-machine.ensures, c.in_ok-into_whole.ensures) at c.write_from.ensures
