use Rattle.std.proofs.Common.{arith}
use Rattle.pickle_io.proofs.Devices.{text_steps}
use Rattle.pickle_calls.specs.CallsLine.{totals_line}
use Rattle.pickle_calls.proofs.end.write_totals.Goals as goal

pub returns-in_err-write_decimal : goal.returns-in_err-write_decimal
unfolding totals_line
returns-in_err-write_decimal g c = grind (arith, text_steps)

pub returns-in_err-write_all : goal.returns-in_err-write_all
unfolding totals_line
returns-in_err-write_all g c = grind (arith, text_steps)

pub returns-in_err-write_decimal-2 : goal.returns-in_err-write_decimal-2
unfolding totals_line
returns-in_err-write_decimal-2 g c = grind (arith, text_steps)

pub returns-in_err-write_all-2 : goal.returns-in_err-write_all-2
unfolding totals_line
returns-in_err-write_all-2 g c = grind (arith, text_steps)

pub returns : goal.returns
unfolding totals_line
returns g c = grind (arith, text_steps)
