use Rattle.std.proofs.Common.{arith}
use Rattle.pickle_io.proofs.Devices.{text_steps}
use Rattle.pickle_further.specs.Parts.{part_end}
use Rattle.pickle_further.proofs.people.write_part_end.Goals as goal

pub returns-in_err-write_totals : goal.returns-in_err-write_totals
unfolding part_end
returns-in_err-write_totals g c = grind (arith, text_steps)

pub returns : goal.returns
unfolding part_end
returns g c = grind (arith, text_steps)
