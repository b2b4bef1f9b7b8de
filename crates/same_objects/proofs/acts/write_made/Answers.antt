use Rattle.std.proofs.Common.{arith}
use Rattle.pickle_io.proofs.Devices.{text_steps}
use Rattle.same_objects.specs.Acts.{made_line}
use Rattle.same_objects.proofs.acts.write_made.Goals as goal

pub returns-in_err-write_all : goal.returns-in_err-write_all
unfolding made_line
returns-in_err-write_all g c = grind (arith, text_steps)

pub returns-in_err-write_decimal : goal.returns-in_err-write_decimal
unfolding made_line
returns-in_err-write_decimal g c = grind (arith, text_steps)

pub returns : goal.returns
unfolding made_line
returns g c = grind (arith, text_steps)
