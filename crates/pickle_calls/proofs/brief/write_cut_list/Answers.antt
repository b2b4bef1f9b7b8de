use Rattle.std.proofs.Common.{arith}
use Rattle.pickle_io.proofs.Devices.{text_steps}
use Rattle.pickle_calls.specs.Brief.{cut_list}
use Rattle.pickle_calls.proofs.brief.write_cut_list.Goals as goal

pub returns-in_err-write_joined : goal.returns-in_err-write_joined
unfolding cut_list
returns-in_err-write_joined g c = grind (arith, text_steps)

pub returns : goal.returns
unfolding cut_list
returns g c = grind (arith, text_steps)
