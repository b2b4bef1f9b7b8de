use Rattle.source_texts.specs.Reach.{class_words}
use Rattle.std.proofs.Common.{arith}
use Rattle.pickle_io.proofs.Devices.{text_steps}
use Rattle.source_texts.proofs.reach.write_class.Goals as goal

pub returns-in_err-say : goal.returns-in_err-say
unfolding class_words
returns-in_err-say g c = grind (arith, text_steps)

pub returns-in_err-write_all : goal.returns-in_err-write_all
unfolding class_words
returns-in_err-write_all g c = grind (arith, text_steps)

pub returns : goal.returns
unfolding class_words
returns g c = grind (arith, text_steps)
