use Rattle.std.proofs.Common.{arith}
use Rattle.pickle_io.proofs.Devices.{text_steps}
use Rattle.pickle_script.specs.FormText.{other_line}
use Rattle.pickle_script.proofs.texts.form.write_other.Goals as goal

pub returns-in_err-write_all : goal.returns-in_err-write_all
unfolding other_line
returns-in_err-write_all g c = grind (arith, text_steps)

pub returns-in_err-write_place : goal.returns-in_err-write_place
unfolding other_line
returns-in_err-write_place g c = grind (arith, text_steps)

pub returns-in_err-write_all-2 : goal.returns-in_err-write_all-2
unfolding other_line
returns-in_err-write_all-2 g c = grind (arith, text_steps)

pub returns : goal.returns
unfolding other_line
returns g c = grind (arith, text_steps)
