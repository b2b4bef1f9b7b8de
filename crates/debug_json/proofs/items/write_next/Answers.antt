use Rattle.std.proofs.Common.{arith}
use Rattle.pickle_io.proofs.Devices.{text_steps}
use Rattle.debug_json.proofs.items.write_next.Goals as goal

pub returns-in_err-write_lead : goal.returns-in_err-write_lead
returns-in_err-write_lead g c = grind (arith, text_steps)

pub returns : goal.returns
returns g c = grind (arith, text_steps)
