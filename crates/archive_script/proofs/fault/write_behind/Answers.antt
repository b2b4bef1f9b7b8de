use Rattle.std.proofs.Common.{arith}
use Rattle.pickle_io.proofs.Devices.{text_steps}
use Rattle.archive_script.specs.FaultText.{behind_text}
use Rattle.archive_script.proofs.fault.write_behind.Goals as goal

pub returns-in_err-write_all : goal.returns-in_err-write_all
unfolding behind_text
returns-in_err-write_all g c = grind (arith, text_steps)

pub returns : goal.returns
unfolding behind_text
returns g c = grind (arith, text_steps)
