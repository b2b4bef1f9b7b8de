use Rattle.source_texts.specs.Held.{some_set}
use Rattle.std.proofs.Common.{arith}
use Rattle.pickle_io.proofs.Devices.{text_steps}
use Rattle.source_texts.proofs.held.write_some_set.Goals as goal

pub returns-in_err-write_all : goal.returns-in_err-write_all
unfolding some_set
returns-in_err-write_all g c = grind (arith, text_steps)

pub returns-in_err-write_changes : goal.returns-in_err-write_changes
unfolding some_set
returns-in_err-write_changes g c = grind (arith, text_steps)

pub returns : goal.returns
unfolding some_set
returns g c = grind (arith, text_steps)
