use Rattle.source_texts.specs.Reach.{assignment}
use Rattle.std.proofs.Common.{arith}
use Rattle.pickle_io.proofs.Devices.{text_steps}
use Rattle.source_texts.proofs.reach.write_assignment.Goals as goal

pub returns-in_err-write_own_name : goal.returns-in_err-write_own_name
unfolding assignment
returns-in_err-write_own_name g c = grind (arith, text_steps)

pub returns : goal.returns
unfolding assignment
returns g c = grind (arith, text_steps)
