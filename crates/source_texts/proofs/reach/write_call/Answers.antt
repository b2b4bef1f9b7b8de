use Rattle.source_texts.specs.Reach.{call_words}
use Rattle.std.proofs.Common.{arith}
use Rattle.pickle_io.proofs.Devices.{text_steps}
use Rattle.source_texts.proofs.reach.write_call.Goals as goal

pub returns-in_err-say : goal.returns-in_err-say
unfolding call_words
returns-in_err-say g c = grind (arith, text_steps)

pub returns-in_err-write_all : goal.returns-in_err-write_all
unfolding call_words
returns-in_err-write_all g c = grind (arith, text_steps)

pub returns-in_err-write_arguments : goal.returns-in_err-write_arguments
unfolding call_words
returns-in_err-write_arguments g c = grind (arith, text_steps)

pub returns : goal.returns
unfolding call_words
returns g c = grind (arith, text_steps)
