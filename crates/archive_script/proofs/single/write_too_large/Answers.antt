use Rattle.std.proofs.Common.{arith}
use Rattle.pickle_io.proofs.Devices.{text_steps}
use Rattle.archive_script.specs.SingleText.{too_large_line}
use Rattle.archive_script.proofs.single.write_too_large.Goals as goal

pub returns-in_err-write_all : goal.returns-in_err-write_all
unfolding too_large_line
returns-in_err-write_all g c = grind (arith, text_steps)

pub returns-in_err-write_decimal : goal.returns-in_err-write_decimal
unfolding too_large_line
returns-in_err-write_decimal g c = grind (arith, text_steps)

pub returns : goal.returns
unfolding too_large_line
returns g c = grind (arith, text_steps)
