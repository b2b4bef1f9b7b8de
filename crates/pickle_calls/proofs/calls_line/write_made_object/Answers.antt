use Rattle.std.proofs.Common.{arith}
use Rattle.pickle_io.proofs.Devices.{text_steps}
use Rattle.pickle_calls.specs.CallsLine.{made_text}
use Rattle.pickle_calls.proofs.calls_line.write_made_object.Goals as goal

pub returns-in_err-write_made_words : goal.returns-in_err-write_made_words
unfolding made_text
returns-in_err-write_made_words g c = grind (arith, text_steps)

pub returns-in_err-write_all : goal.returns-in_err-write_all
unfolding made_text
returns-in_err-write_all g c = grind (arith, text_steps)

pub returns : goal.returns
unfolding made_text
returns g c = grind (arith, text_steps)
