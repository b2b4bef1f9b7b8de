use Rattle.std.proofs.Common.{arith}
use Rattle.pickle_io.proofs.Devices.{text_steps}
use Rattle.object_texts.proofs.show.walk_from.Goals as goal

pub returns-in_err-visit : goal.returns-in_err-visit
returns-in_err-visit g c = grind (arith, text_steps)

pub returns : goal.returns
returns g c = grind (arith, text_steps)
