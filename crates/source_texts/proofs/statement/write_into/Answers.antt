use Rattle.source_texts.specs.Statement.{into_text}
use Rattle.std.proofs.Common.{arith}
use Rattle.pickle_io.proofs.Devices.{text_steps}
use Rattle.source_texts.proofs.statement.write_into.Goals as goal

pub returns-in_err-write_all : goal.returns-in_err-write_all
unfolding into_text
returns-in_err-write_all g c = grind (arith, text_steps)

pub returns-in_err-say : goal.returns-in_err-say
unfolding into_text
returns-in_err-say g c = grind (arith, text_steps)

pub returns-in_err-write_all-2 : goal.returns-in_err-write_all-2
unfolding into_text
returns-in_err-write_all-2 g c = grind (arith, text_steps)

pub returns-in_err-write_changes : goal.returns-in_err-write_changes
unfolding into_text
returns-in_err-write_changes g c = grind (arith, text_steps)

pub returns : goal.returns
unfolding into_text
returns g c = grind (arith, text_steps)
