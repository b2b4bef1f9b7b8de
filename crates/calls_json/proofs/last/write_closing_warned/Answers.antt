use Rattle.std.proofs.Common.{arith}
use Rattle.pickle_io.proofs.Devices.{text_steps}
use Rattle.calls_json.proofs.last.write_closing_warned.Goals as goal

pub returns-in_err-write_part_closing : goal.returns-in_err-write_part_closing
returns-in_err-write_part_closing g c = grind (arith, text_steps)

pub returns : goal.returns
returns g c = grind (arith, text_steps)
