use Rattle.std.proofs.Common.{arith}
use Rattle.pickle_io.proofs.Devices.{text_steps}
use Rattle.source_texts.specs.Reach.{assigned_words}
use Rattle.source_texts.proofs.reach.write_assigned.Goals as goal

pub returns-in_err-write_assignment : goal.returns-in_err-write_assignment
unfolding assigned_words
returns-in_err-write_assignment g c = grind (arith, text_steps)

pub returns : goal.returns
unfolding assigned_words
returns g c = grind (arith, text_steps)
