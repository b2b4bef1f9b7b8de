use Rattle.std.proofs.Common.{arith}
use Rattle.debug_json.proofs.Arrays.{object_steps}
use Rattle.debug_json.specs.ShownFields.{entry_value}
use Rattle.debug_json.proofs.memo.write_entry.Goals as goal

pub returns-in_err-begin_line : goal.returns-in_err-begin_line
unfolding entry_value
returns-in_err-begin_line g c = grind (arith, object_steps)

pub returns-in_err-write_entry_fields : goal.returns-in_err-write_entry_fields
unfolding entry_value
returns-in_err-write_entry_fields g c = grind (arith, object_steps)

pub returns : goal.returns
unfolding entry_value
returns g c = grind (arith, object_steps)
