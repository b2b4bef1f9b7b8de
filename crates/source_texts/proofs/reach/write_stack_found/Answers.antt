use Rattle.source_texts.specs.Reach.{stack_found}
use Rattle.std.proofs.Common.{arith}
use Rattle.pickle_io.proofs.Devices.{text_steps}
use Rattle.source_texts.proofs.reach.write_stack_found.Goals as goal

pub returns-in_err-write_named : goal.returns-in_err-write_named
unfolding stack_found
returns-in_err-write_named g c = grind (arith, text_steps)

pub returns : goal.returns
unfolding stack_found
returns g c = grind (arith, text_steps)
