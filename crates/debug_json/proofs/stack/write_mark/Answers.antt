use Rattle.std.proofs.Common.{arith}
use Rattle.debug_json.proofs.Arrays.{object_steps}
use Rattle.debug_json.specs.ShownFields.{mark_json}
use Rattle.debug_json.proofs.stack.write_mark.Goals as goal

pub returns-in_err-begin_line : goal.returns-in_err-begin_line
unfolding mark_json
returns-in_err-begin_line g c = grind (arith, object_steps)

pub returns-in_err-write_mark_fields : goal.returns-in_err-write_mark_fields
unfolding mark_json
returns-in_err-write_mark_fields g c = grind (arith, object_steps)

pub returns : goal.returns
unfolding mark_json
returns g c = grind (arith, object_steps)
