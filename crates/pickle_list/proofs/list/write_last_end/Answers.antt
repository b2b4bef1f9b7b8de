use Rattle.std.proofs.Common.{arith}
use Rattle.pickle_io.proofs.Devices.{text_steps}
use Rattle.pickle_list.proofs.list.write_last_end.Goals as goal

pub returns-in_err-write_kept_line : goal.returns-in_err-write_kept_line
returns-in_err-write_kept_line g c = grind (arith, text_steps)

pub returns : goal.returns
returns g c = grind (arith, text_steps)
