use Rattle.pickle_io.proofs.Devices.{Wrote-none}
use Rattle.pickle_further.proofs.texts.write_losses_if.Goals as goal

pub returns-in-None : goal.returns-in-None
returns-in-None g c = rw c.in-None.is (Wrote-none _)

pub returns-in-Some : goal.returns-in-Some
returns-in-Some g c = rw c.in-Some.is c.write_losses.ensures
