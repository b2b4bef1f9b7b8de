use Rattle.std.proofs.Common.{arith}
use Rattle.pickle_io.proofs.Devices.{text_steps}
use Rattle.pickle_json.proofs.walk.write_refused_item.Goals as goal

pub returns-in_err-write_item : goal.returns-in_err-write_item
returns-in_err-write_item g c = grind (arith, text_steps)

pub returns : goal.returns
returns g c = grind (arith, text_steps)
