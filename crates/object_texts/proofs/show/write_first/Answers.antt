use Rattle.std.proofs.Common.{arith}
use Rattle.pickle_io.proofs.Devices.{text_steps}
use Rattle.object_texts.specs.Show.{first_line}
use Rattle.object_texts.proofs.show.write_first.Goals as goal

pub returns-in_err-write_decimal : goal.returns-in_err-write_decimal
unfolding first_line
returns-in_err-write_decimal g c = grind (arith, text_steps)

pub returns-in_err-write_all : goal.returns-in_err-write_all
unfolding first_line
returns-in_err-write_all g c = grind (arith, text_steps)

pub returns-in_err-write_object : goal.returns-in_err-write_object
unfolding first_line
returns-in_err-write_object g c = grind (arith, text_steps)

pub returns : goal.returns
unfolding first_line
returns g c = grind (arith, text_steps)
