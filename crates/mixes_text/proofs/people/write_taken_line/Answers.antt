use Rattle.std.proofs.Common.{arith}
use Rattle.pickle_io.proofs.Devices.{text_steps}
use Rattle.mixes_text.specs.MixText.{taken_line}
use Rattle.mixes_text.proofs.people.write_taken_line.Goals as goal

pub returns-in_err-write_right : goal.returns-in_err-write_right
unfolding taken_line
returns-in_err-write_right g c = grind (arith, text_steps)

pub returns-in_err-write_all : goal.returns-in_err-write_all
unfolding taken_line
returns-in_err-write_all g c = grind (arith, text_steps)

pub returns-in_err-write_op : goal.returns-in_err-write_op
unfolding taken_line
returns-in_err-write_op g c = grind (arith, text_steps)

pub returns : goal.returns
unfolding taken_line
returns g c = grind (arith, text_steps)
