use Rattle.std.proofs.Common.{arith}
use Rattle.pickle_io.proofs.Devices.{text_steps}
use Rattle.pickle_calls.proofs.Cutting.{left_over}
use Rattle.pickle_calls.proofs.brief.write_cut_value.Goals as goal

pub returns-in_err-write_value : goal.returns-in_err-write_value
returns-in_err-write_value g c = grind (arith, text_steps, left_over)

pub returns : goal.returns
returns g c = grind (arith, text_steps, left_over)
