use Rattle.std.proofs.Common.{arith}
use Rattle.pickle_io.proofs.Devices.{text_steps}
use Rattle.pickle_script.specs.PlaceText.{place_columns}
use Rattle.pickle_script.proofs.conversation.items.write_columns.Goals as goal

pub returns-in_err-write_right : goal.returns-in_err-write_right
unfolding place_columns
returns-in_err-write_right g c = grind (arith, text_steps)

pub returns-in_err-write_all : goal.returns-in_err-write_all
unfolding place_columns
returns-in_err-write_all g c = grind (arith, text_steps)

pub returns : goal.returns
unfolding place_columns
returns g c = grind (arith, text_steps)
