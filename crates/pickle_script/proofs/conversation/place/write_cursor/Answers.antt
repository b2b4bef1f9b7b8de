use Rattle.std.proofs.Common.{arith}
use Rattle.pickle_io.proofs.Devices.{text_steps}
use Rattle.pickle_script.specs.PlaceText.{cursor_text}
use Rattle.pickle_script.proofs.conversation.place.write_cursor.Goals as goal

pub returns-in_err-write_all : goal.returns-in_err-write_all
unfolding cursor_text
returns-in_err-write_all g c = grind (arith, text_steps)

pub returns-in_err-write_decimal : goal.returns-in_err-write_decimal
unfolding cursor_text
returns-in_err-write_decimal g c = grind (arith, text_steps)

pub returns-in_err-write_all-2 : goal.returns-in_err-write_all-2
unfolding cursor_text
returns-in_err-write_all-2 g c = grind (arith, text_steps)

pub returns : goal.returns
unfolding cursor_text
returns g c = grind (arith, text_steps)
