use Rattle.std.proofs.Common.{arith}
use Rattle.calls_json.proofs.Values.{object_steps}
use Rattle.calls_json.proofs.value.write_absent.Goals as goal

pub returns-in_err-begin_line : goal.returns-in_err-begin_line
returns-in_err-begin_line g c = grind (arith, object_steps)

pub returns-in_err-write_id : goal.returns-in_err-write_id
returns-in_err-write_id g c = grind (arith, object_steps)

pub returns : goal.returns
returns g c = grind (arith, object_steps)
