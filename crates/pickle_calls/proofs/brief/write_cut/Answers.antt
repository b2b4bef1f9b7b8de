use Rattle.std.proofs.Common.{arith}
use Rattle.pickle_io.proofs.Devices.{text_steps}
use Rattle.pickle_calls.specs.Brief.{cut_quoted}
use Rattle.pickle_calls.proofs.brief.write_cut.Goals as goal

pub returns-in_err-write_quoted : goal.returns-in_err-write_quoted
unfolding cut_quoted
returns-in_err-write_quoted g c = grind (arith, text_steps)

pub returns : goal.returns
unfolding cut_quoted
returns g c = grind (arith, text_steps)
