use Rattle.std.proofs.Common.{arith}
use Rattle.pickle_io.proofs.Devices.{text_steps}
use Rattle.pickle_script.specs.ReachText.{reached_line}
use Rattle.pickle_script.proofs.texts.reach.write_reached.Goals as goal

pub returns-in_err-write_all : goal.returns-in_err-write_all
unfolding reached_line
returns-in_err-write_all g c = grind (arith, text_steps)

pub returns-in_err-write_decimal : goal.returns-in_err-write_decimal
unfolding reached_line
returns-in_err-write_decimal g c = grind (arith, text_steps)

pub returns-in_err-write_all-2 : goal.returns-in_err-write_all-2
unfolding reached_line
returns-in_err-write_all-2 g c = grind (arith, text_steps)

pub returns-in_err-write_op : goal.returns-in_err-write_op
unfolding reached_line
returns-in_err-write_op g c = grind (arith, text_steps)

pub returns : goal.returns
unfolding reached_line
returns g c = grind (arith, text_steps)
