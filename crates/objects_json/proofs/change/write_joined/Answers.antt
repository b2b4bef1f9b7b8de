use Rattle.std.proofs.Common.{arith}
use Rattle.objects_json.proofs.Changes.{array_steps}
use Rattle.objects_json.proofs.change.write_joined.Goals as goal

pub returns-in_err-write_change : goal.returns-in_err-write_change
returns-in_err-write_change g c = grind (arith, array_steps)

pub returns : goal.returns
returns g c = grind (arith, array_steps)
