use Rattle.std.proofs.Common.{arith}
use Rattle.debug_json.proofs.Arrays.{object_steps}
use Rattle.debug_json.proofs.step.write_change.Goals as goal

pub returns-in_err-begin_line : goal.returns-in_err-begin_line
returns-in_err-begin_line g c = grind (arith, object_steps)

pub returns-in_err-write_change_fields : goal.returns-in_err-write_change_fields
returns-in_err-write_change_fields g c = grind (arith, object_steps)

pub returns : goal.returns
returns g c = grind (arith, object_steps)
