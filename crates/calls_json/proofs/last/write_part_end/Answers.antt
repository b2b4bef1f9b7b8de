use Rattle.std.proofs.Common.{arith}
use Rattle.pickle_io.proofs.Devices.{text_steps}
use Rattle.calls_json.specs.LastFields.{part_end}
use Rattle.calls_json.proofs.last.write_part_end.Goals as goal

pub returns-in_err-write_counts : goal.returns-in_err-write_counts
unfolding part_end
returns-in_err-write_counts g c = grind (arith, text_steps)

pub returns : goal.returns
unfolding part_end
returns g c = grind (arith, text_steps)
