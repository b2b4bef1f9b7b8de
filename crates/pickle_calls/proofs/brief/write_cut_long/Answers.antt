use Rattle.std.proofs.Common.{arith}
use Rattle.pickle_io.proofs.Devices.{text_steps}
use Rattle.pickle_calls.specs.Brief.{cut_long}
use Rattle.pickle_calls.proofs.brief.write_cut_long.Goals as goal

pub returns-in_err-write_long : goal.returns-in_err-write_long
unfolding cut_long
returns-in_err-write_long g c = grind (arith, text_steps)

pub returns : goal.returns
unfolding cut_long
returns g c = grind (arith, text_steps)
