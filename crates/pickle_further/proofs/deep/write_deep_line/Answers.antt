use Rattle.std.proofs.Common.{arith}
use Rattle.pickle_io.proofs.Devices.{text_steps}
use Rattle.pickle_further.specs.Deep.{deep_line}
use Rattle.pickle_further.proofs.deep.write_deep_line.Goals as goal

pub returns-in_err-write_all : goal.returns-in_err-write_all
unfolding deep_line
returns-in_err-write_all g c = grind (arith, text_steps)

pub returns-in_err-write_id : goal.returns-in_err-write_id
unfolding deep_line
returns-in_err-write_id g c = grind (arith, text_steps)

pub returns-in_err-write_all-2 : goal.returns-in_err-write_all-2
unfolding deep_line
returns-in_err-write_all-2 g c = grind (arith, text_steps)

pub returns : goal.returns
unfolding deep_line
returns g c = grind (arith, text_steps)
