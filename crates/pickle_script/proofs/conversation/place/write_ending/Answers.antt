use Rattle.std.proofs.Common.{arith}
use Rattle.pickle_io.proofs.Devices.{text_steps}
use Rattle.pickle_script.specs.PlaceText.{ending_text}
use Rattle.pickle_script.proofs.conversation.place.write_ending.Goals as goal

pub returns-in_err-write_all : goal.returns-in_err-write_all
unfolding ending_text
returns-in_err-write_all g c = grind (arith, text_steps)

pub returns-in_err-write_end : goal.returns-in_err-write_end
unfolding ending_text
returns-in_err-write_end g c = grind (arith, text_steps)

pub returns : goal.returns
unfolding ending_text
returns g c = grind (arith, text_steps)
