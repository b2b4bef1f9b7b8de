use Rattle.std.proofs.Common.{arith}
use Rattle.pickle_io.proofs.Devices.{text_steps}
use Rattle.calls_json.proofs.people.write_closed.Goals as goal

pub returns-in_err-write_kept : goal.returns-in_err-write_kept
returns-in_err-write_kept g c = grind (arith, text_steps)

pub returns : goal.returns
returns g c = grind (arith, text_steps)
