use Rattle.std.proofs.Common.{arith}
use Rattle.pickle_io.proofs.Devices.{text_steps}
use Rattle.archive_script.specs.SingleText.{packed_line}
use Rattle.archive_script.proofs.single.write_packed_line.Goals as goal

pub returns-in_err-write_all : goal.returns-in_err-write_all
unfolding packed_line
returns-in_err-write_all g c = grind (arith, text_steps)

pub returns-in_err-write_decimal : goal.returns-in_err-write_decimal
unfolding packed_line
returns-in_err-write_decimal g c = grind (arith, text_steps)

pub returns-in_err-write_all-2 : goal.returns-in_err-write_all-2
unfolding packed_line
returns-in_err-write_all-2 g c = grind (arith, text_steps)

pub returns-in_err-write_all-3 : goal.returns-in_err-write_all-3
unfolding packed_line
returns-in_err-write_all-3 g c = grind (arith, text_steps)

pub returns : goal.returns
unfolding packed_line
returns g c = grind (arith, text_steps)
