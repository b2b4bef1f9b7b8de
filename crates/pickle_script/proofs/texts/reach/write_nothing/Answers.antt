use Rattle.std.proofs.Common.{arith}
use Rattle.pickle_io.proofs.Devices.{text_steps}
use Rattle.pickle_script.specs.ReachText.{nothing_line}
use Rattle.pickle_script.proofs.texts.reach.write_nothing.Goals as goal

pub returns-in_err-write_all : goal.returns-in_err-write_all
unfolding nothing_line
returns-in_err-write_all g c = grind (arith, text_steps)

pub returns-in_err-write_decimal : goal.returns-in_err-write_decimal
unfolding nothing_line
returns-in_err-write_decimal g c = grind (arith, text_steps)

pub returns-in_err-write_whatever : goal.returns-in_err-write_whatever
unfolding nothing_line
returns-in_err-write_whatever g c = grind (arith, text_steps)

pub returns : goal.returns
unfolding nothing_line
returns g c = grind (arith, text_steps)
