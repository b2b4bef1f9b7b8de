use Rattle.source_texts.specs.Held.{then_pair}
use Rattle.std.proofs.Common.{arith}
use Rattle.pickle_io.proofs.Devices.{text_steps}
use Rattle.source_texts.proofs.held.write_pair_then.Goals as goal

pub returns-in_err-write_pair : goal.returns-in_err-write_pair
unfolding then_pair
returns-in_err-write_pair g c = grind (arith, text_steps)

pub returns : goal.returns
unfolding then_pair
returns g c = grind (arith, text_steps)
