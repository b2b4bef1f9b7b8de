use Rattle.source_texts.specs.Reach.{read_only_words}
use Rattle.std.proofs.Common.{arith}
use Rattle.pickle_io.proofs.Devices.{text_steps}
use Rattle.source_texts.proofs.reach.write_read_only.Goals as goal

pub returns-in_err-say : goal.returns-in_err-say
unfolding read_only_words
returns-in_err-say g c = grind (arith, text_steps)

pub returns-in_err-write_all : goal.returns-in_err-write_all
unfolding read_only_words
returns-in_err-write_all g c = grind (arith, text_steps)

pub returns-in_err-say-2 : goal.returns-in_err-say-2
unfolding read_only_words
returns-in_err-say-2 g c = grind (arith, text_steps)

pub returns-in_err-write_all-2 : goal.returns-in_err-write_all-2
unfolding read_only_words
returns-in_err-write_all-2 g c = grind (arith, text_steps)

pub returns : goal.returns
unfolding read_only_words
returns g c = grind (arith, text_steps)
