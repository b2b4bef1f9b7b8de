use Rattle.std.proofs.Common.{arith}
use Rattle.pickle_io.proofs.Devices.{text_steps}
use Rattle.pickle_further.specs.Parts.{loss_line}
use Rattle.pickle_further.proofs.people.write_loss_line.Goals as goal

pub returns-in_err-write_all : goal.returns-in_err-write_all
unfolding loss_line
returns-in_err-write_all g c = grind (arith, text_steps)

pub returns-in_err-write_decimal : goal.returns-in_err-write_decimal
unfolding loss_line
returns-in_err-write_decimal g c = grind (arith, text_steps)

pub returns : goal.returns
unfolding loss_line
returns g c = grind (arith, text_steps)
