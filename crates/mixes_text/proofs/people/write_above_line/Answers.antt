use Rattle.std.proofs.Common.{arith}
use Rattle.pickle_io.proofs.Devices.{text_steps}
use Rattle.mixes_text.specs.MixText.{above_line}
use Rattle.mixes_text.proofs.people.write_above_line.Goals as goal

pub returns-in_err-write_all : goal.returns-in_err-write_all
unfolding above_line
returns-in_err-write_all g c = grind (arith, text_steps)

pub returns : goal.returns
unfolding above_line
returns g c = grind (arith, text_steps)
