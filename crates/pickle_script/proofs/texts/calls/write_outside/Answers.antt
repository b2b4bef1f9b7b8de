use Rattle.std.proofs.Common.{arith}
use Rattle.pickle_io.proofs.Devices.{text_steps}
use Rattle.pickle_script.specs.Output.{outside_line}
use Rattle.pickle_script.proofs.texts.calls.write_outside.Goals as goal

pub returns-in_err-write_all : goal.returns-in_err-write_all
unfolding outside_line
returns-in_err-write_all g c = grind (arith, text_steps)

pub returns-in_err-write_hole : goal.returns-in_err-write_hole
unfolding outside_line
returns-in_err-write_hole g c = grind (arith, text_steps)

pub returns-in_err-write_all-2 : goal.returns-in_err-write_all-2
unfolding outside_line
returns-in_err-write_all-2 g c = grind (arith, text_steps)

pub returns-in_err-write_decimal : goal.returns-in_err-write_decimal
unfolding outside_line
returns-in_err-write_decimal g c = grind (arith, text_steps)

pub returns-in_err-write_all-3 : goal.returns-in_err-write_all-3
unfolding outside_line
returns-in_err-write_all-3 g c = grind (arith, text_steps)

pub returns : goal.returns
unfolding outside_line
returns g c = grind (arith, text_steps)
