use Rattle.std.proofs.Common.{arith}
use Rattle.pickle_io.proofs.Devices.{text_steps}
use Rattle.debug_json.proofs.memo.write_next.Goals as goal

pub returns-in_err-write_comma : goal.returns-in_err-write_comma
returns-in_err-write_comma g c = grind (arith, text_steps)

pub returns : goal.returns
returns g c = grind (arith, text_steps)
