use Rattle.std.proofs.Common.{arith}
use Rattle.pickle_io.proofs.Devices.{text_steps}
use Rattle.same_script.specs.SameText.{ends_line}
use Rattle.same_script.proofs.written.write_ends.Goals as goal

pub returns-in_err-write_all : goal.returns-in_err-write_all
unfolding ends_line
returns-in_err-write_all g c = grind (arith, text_steps)

pub returns-in_err-write_all-2 : goal.returns-in_err-write_all-2
unfolding ends_line
returns-in_err-write_all-2 g c = grind (arith, text_steps)

pub returns : goal.returns
unfolding ends_line
returns g c = grind (arith, text_steps)
