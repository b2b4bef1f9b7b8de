use Rattle.source_texts.specs.Held.{then_part}
use Rattle.std.proofs.Common.{arith}
use Rattle.pickle_io.proofs.Devices.{text_steps}
use Rattle.source_texts.proofs.held.write_part_then.Goals as goal

pub returns-in_err-say : goal.returns-in_err-say
unfolding then_part
returns-in_err-say g c = grind (arith, text_steps)

pub returns : goal.returns
unfolding then_part
returns g c = grind (arith, text_steps)
