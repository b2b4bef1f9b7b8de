use Rattle.std.proofs.Common.{arith}
use Rattle.pickle_io.proofs.Devices.{text_steps}
use Rattle.source_texts.specs.Held.{some_changes}
use Rattle.source_texts.proofs.held.write_some_changes.Goals as goal

pub returns-in_err-write_change : goal.returns-in_err-write_change
unfolding some_changes
returns-in_err-write_change g c = grind (arith, text_steps)

pub returns : goal.returns
unfolding some_changes
returns g c = grind (arith, text_steps)
