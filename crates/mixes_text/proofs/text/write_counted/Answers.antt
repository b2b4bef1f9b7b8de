use Rattle.pickle_io.proofs.Devices.{Wrote-then, Broke-next}
use Rattle.pickle_further.proofs.Pieces.{stopped}
use Rattle.mixes_text.proofs.Lines.{cut_more}
use Rattle.mixes_text.proofs.text.write_counted.Goals as goal

pub returns-in_err-write_places : goal.returns-in_err-write_places
returns-in_err-write_places g c = stopped _ _ _ _ _ c.from_residual.ensures.1 (cut_more _ _ _ _ _ c.in_err-write_places.ensures)

pub returns-in_err-write_below : goal.returns-in_err-write_below
returns-in_err-write_below g c = stopped _ _ _ _ _ c.from_residual-in_err-write_below.ensures.1 (Broke-next _ _ _ _ _ c.in_err-write_below.ensures c.in_ok-write_places.ensures)

pub returns : goal.returns
returns g c = Wrote-then _ _ _ _ _ c.in_ok-write_below.ensures c.in_ok-write_places.ensures
