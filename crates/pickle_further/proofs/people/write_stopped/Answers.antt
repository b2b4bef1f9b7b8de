use Rattle.std.proofs.Common.{arith}
use Rattle.pickle_io.proofs.Devices.{text_steps}
use Rattle.pickle_further.specs.Parts.{stop_line}
use Rattle.pickle_further.proofs.people.write_stopped.Goals as goal

pub returns-in_err-write_all : goal.returns-in_err-write_all
unfolding stop_line
returns-in_err-write_all g c = grind (arith, text_steps)

pub returns : goal.returns
unfolding stop_line
returns g c = grind (arith, text_steps)
