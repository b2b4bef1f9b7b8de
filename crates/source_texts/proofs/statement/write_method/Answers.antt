use Rattle.source_texts.specs.Statement.{method_words}
use Rattle.std.proofs.Common.{arith}
use Rattle.pickle_io.proofs.Devices.{text_steps}
use Rattle.source_texts.proofs.statement.write_method.Goals as goal

pub returns-in_err-say : goal.returns-in_err-say
unfolding method_words
returns-in_err-say g c = grind (arith, text_steps)

pub returns-in_err-write_all : goal.returns-in_err-write_all
unfolding method_words
returns-in_err-write_all g c = grind (arith, text_steps)

pub returns-in_err-write_changes : goal.returns-in_err-write_changes
unfolding method_words
returns-in_err-write_changes g c = grind (arith, text_steps)

pub returns : goal.returns
unfolding method_words
returns g c = grind (arith, text_steps)
