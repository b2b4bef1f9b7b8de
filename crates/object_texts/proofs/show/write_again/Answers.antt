use Rattle.std.proofs.Common.{arith}
use Rattle.pickle_io.proofs.Devices.{text_steps}
use Rattle.object_texts.specs.Show.{again_line}
use Rattle.object_texts.proofs.show.write_again.Goals as goal

pub returns-in_err-write_decimal : goal.returns-in_err-write_decimal
unfolding again_line
returns-in_err-write_decimal g c = grind (arith, text_steps)

pub returns-in_err-write_next : goal.returns-in_err-write_next
unfolding again_line
returns-in_err-write_next g c = grind (arith, text_steps)

pub returns : goal.returns
unfolding again_line
returns g c = grind (arith, text_steps)
