use Rattle.std.proofs.Common.{arith}
use Rattle.pickle_io.proofs.Devices.{text_steps}
use Rattle.pickle_calls.proofs.brief.write_some.Goals as goal

pub returns-in_err-write_brief : goal.returns-in_err-write_brief
returns-in_err-write_brief g c = grind (arith, text_steps)

pub returns : goal.returns
returns g c = grind (arith, text_steps)
