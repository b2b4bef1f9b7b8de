use Rattle.std.proofs.Common.{arith}
use Rattle.pickle_io.proofs.Devices.{text_steps}
use Rattle.archive_script.specs.FaultText.{named}
use Rattle.archive_script.proofs.fault.write_failing.Goals as goal

pub returns-in_err-write_quoted : goal.returns-in_err-write_quoted
unfolding named
returns-in_err-write_quoted g c = grind (arith, text_steps)

pub returns-in_err-write_all : goal.returns-in_err-write_all
unfolding named
returns-in_err-write_all g c = grind (arith, text_steps)

pub returns : goal.returns
unfolding named
returns g c = grind (arith, text_steps)
