use Rattle.std.proofs.Common.{arith}
use Rattle.pickle_io.proofs.Devices.{text_steps}
use Rattle.same_objects.specs.Acts.{pair_line}
use Rattle.same_objects.proofs.acts.write_pair.Goals as goal

pub returns-in_err-write_all : goal.returns-in_err-write_all
unfolding pair_line
returns-in_err-write_all g c = grind (arith, text_steps)

pub returns-in_err-write_decimal : goal.returns-in_err-write_decimal
unfolding pair_line
returns-in_err-write_decimal g c = grind (arith, text_steps)

pub returns-in_err-write_all-2 : goal.returns-in_err-write_all-2
unfolding pair_line
returns-in_err-write_all-2 g c = grind (arith, text_steps)

pub returns-in_err-write_decimal-2 : goal.returns-in_err-write_decimal-2
unfolding pair_line
returns-in_err-write_decimal-2 g c = grind (arith, text_steps)

pub returns : goal.returns
unfolding pair_line
returns g c = grind (arith, text_steps)
