use Rattle.std.proofs.Common.{arith}
use Rattle.pickle_io.proofs.Devices.{text_steps}
use Rattle.pickle_script.specs.FormText.{place_text}
use Rattle.pickle_script.proofs.texts.form.write_place.Goals as goal

pub returns-in_err-write_all : goal.returns-in_err-write_all
unfolding place_text
returns-in_err-write_all g c = grind (arith, text_steps)

pub returns-in_err-write_decimal : goal.returns-in_err-write_decimal
unfolding place_text
returns-in_err-write_decimal g c = grind (arith, text_steps)

pub returns-in_err-write_all-2 : goal.returns-in_err-write_all-2
unfolding place_text
returns-in_err-write_all-2 g c = grind (arith, text_steps)

pub returns-in_err-write_decimal-2 : goal.returns-in_err-write_decimal-2
unfolding place_text
returns-in_err-write_decimal-2 g c = grind (arith, text_steps)

pub returns : goal.returns
unfolding place_text
returns g c = grind (arith, text_steps)
