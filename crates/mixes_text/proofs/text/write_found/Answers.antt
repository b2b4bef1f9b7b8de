use Rattle.pickle_io.proofs.Devices.{Broke-longer}
use Rattle.pickle_further.proofs.Pieces.{stopped}
use Rattle.mixes_text.proofs.Lines.{put_more}
use Rattle.mixes_text.proofs.text.write_found.Goals as goal

pub returns-in_err-write_above : goal.returns-in_err-write_above
returns-in_err-write_above g c = stopped _ _ _ _ _ c.from_residual.ensures.1 (Broke-longer _ _ _ _ c.in_err-write_above.ensures)

pub returns : goal.returns
returns g c = put_more _ _ _ _ _ c.write_counted.result c.in_ok-write_above.ensures c.write_counted.ensures
