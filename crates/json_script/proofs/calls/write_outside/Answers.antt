use Rattle.std.proofs.Common.{arith}
use Rattle.pickle_io.proofs.Devices.{text_steps}
use Rattle.json_script.proofs.calls.write_outside.Goals as goal

pub returns-in_err-write_hole : goal.returns-in_err-write_hole
returns-in_err-write_hole g c = grind (arith, text_steps)

pub returns : goal.returns
returns g c = grind (arith, text_steps)
