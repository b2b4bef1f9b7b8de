use Rattle.std.proofs.Common.{arith}
use Rattle.pickle_io.proofs.Devices.{text_steps}
use Rattle.pickle_calls.specs.Begins.{begins_line}
use Rattle.pickle_calls.proofs.begins.write_begins_line.Goals as goal

pub returns-in_err-write_all : goal.returns-in_err-write_all
unfolding begins_line
returns-in_err-write_all g c = grind (arith, text_steps)

pub returns-in_err-write_all-2 : goal.returns-in_err-write_all-2
unfolding begins_line
returns-in_err-write_all-2 g c = grind (arith, text_steps)

pub returns-in_err-write_all-3 : goal.returns-in_err-write_all-3
unfolding begins_line
returns-in_err-write_all-3 g c = grind (arith, text_steps)

pub returns : goal.returns
unfolding begins_line
returns g c = grind (arith, text_steps)
