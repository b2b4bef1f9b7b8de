use Rattle.source_texts.specs.Reach.{new_words}
use Rattle.std.proofs.Common.{arith}
use Rattle.pickle_io.proofs.Devices.{text_steps}
use Rattle.source_texts.proofs.reach.write_new.Goals as goal

pub returns-in_err-write_class : goal.returns-in_err-write_class
unfolding new_words
returns-in_err-write_class g c = grind (arith, text_steps)

pub returns-in_err-write_after : goal.returns-in_err-write_after
unfolding new_words
returns-in_err-write_after g c = grind (arith, text_steps)

pub returns : goal.returns
unfolding new_words
returns g c = grind (arith, text_steps)
