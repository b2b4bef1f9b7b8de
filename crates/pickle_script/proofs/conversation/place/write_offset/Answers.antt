use Rattle.std.proofs.Common.{arith}
use Rattle.pickle_io.proofs.Devices.{text_steps}
use Rattle.pickle_script.specs.PlaceText.{offset_text}
use Rattle.pickle_script.proofs.conversation.place.write_offset.Goals as goal

pub returns-in_err-write_all : goal.returns-in_err-write_all
unfolding offset_text
returns-in_err-write_all g c = grind (arith, text_steps)

pub returns : goal.returns
unfolding offset_text
returns g c = grind (arith, text_steps)
