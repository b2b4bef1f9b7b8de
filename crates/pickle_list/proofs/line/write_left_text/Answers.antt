use Rattle.std.proofs.Common.{arith}
use Rattle.pickle_io.proofs.Devices.{text_steps}
use Rattle.pickle_list.specs.Line.{left_text}
use Rattle.pickle_list.proofs.line.write_left_text.Goals as goal

pub returns-in_err-write_all : goal.returns-in_err-write_all
unfolding left_text
returns-in_err-write_all g c = grind (arith, text_steps)

pub returns-in_err-write_decimal : goal.returns-in_err-write_decimal
unfolding left_text
returns-in_err-write_decimal g c = grind (arith, text_steps)

pub returns-in_err-write_all-2 : goal.returns-in_err-write_all-2
unfolding left_text
returns-in_err-write_all-2 g c = grind (arith, text_steps)

pub returns-in_err-write_decimal-2 : goal.returns-in_err-write_decimal-2
unfolding left_text
returns-in_err-write_decimal-2 g c = grind (arith, text_steps)

pub returns-in_err-write_all-3 : goal.returns-in_err-write_all-3
unfolding left_text
returns-in_err-write_all-3 g c = grind (arith, text_steps)

pub returns : goal.returns
unfolding left_text
returns g c = grind (arith, text_steps)
