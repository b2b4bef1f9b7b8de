use Rattle.std.proofs.Common.{arith}
use Rattle.pickle_io.proofs.Devices.{text_steps}
use Rattle.pickle_calls.specs.Brief.{long_after}
use Rattle.pickle_calls.proofs.brief.write_long_after.Goals as goal

pub returns-in_err-write_all : goal.returns-in_err-write_all
unfolding long_after
returns-in_err-write_all g c = grind (arith, text_steps)

pub returns : goal.returns
unfolding long_after
returns g c = grind (arith, text_steps)
