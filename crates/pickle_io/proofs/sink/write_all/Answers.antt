-- What one write more leaves of the text, or an end.
use Rattle.pickle_io.proofs.Devices.{WroteAllBut-sliced, WroteAllBut-stopped, Writes-stop}
use Rattle.pickle_io.proofs.sink.write_all.Goals as goal

pub returns-in_err-n : goal.returns-in_err-n
returns-in_err-n g c = Writes-stop _ _ c.from_residual.result c.from_residual.result _ c.from_residual.ensures.0 (WroteAllBut-stopped _ _ _ _ _ c.loop-rest.invariant c.in_err-n.ensures.err)

pub loop-rest-preserved : goal.loop-rest-preserved
loop-rest-preserved g c = WroteAllBut-sliced _ _ _ _ _ _ c.loop-rest.invariant c.in_ok-n.ensures.ok c.in_ok-n.ensures.within
