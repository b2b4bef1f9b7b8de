use Rattle.std.proofs.Common.{arith}
use Rattle.pickle_io.proofs.Devices.{text_steps}
use Rattle.pickle_further.proofs.people.write_ends_warned.Goals as goal

pub returns-in_err-write_ends : goal.returns-in_err-write_ends
returns-in_err-write_ends g c = grind (arith, text_steps)

pub returns : goal.returns
returns g c = grind (arith, text_steps)
