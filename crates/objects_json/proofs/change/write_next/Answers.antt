use Rattle.std.proofs.Common.{arith}
use Rattle.pickle_io.proofs.Devices.{text_steps}
use Rattle.objects_json.specs.ObjectFields.{next_change}
use Rattle.objects_json.proofs.change.write_next.Goals as goal

pub returns-in_err-write_all : goal.returns-in_err-write_all
unfolding next_change
returns-in_err-write_all g c = grind (arith, text_steps)

pub returns : goal.returns
unfolding next_change
returns g c = grind (arith, text_steps)
