use Rattle.std.proofs.Common.{arith}
use Rattle.debug_json.proofs.Arrays.{object_steps}
use Rattle.debug_json.specs.ItemsFields.{item_json}
use Rattle.debug_json.proofs.items.write_item.Goals as goal

pub returns-in_err-begin_line : goal.returns-in_err-begin_line
unfolding item_json
returns-in_err-begin_line g c = grind (arith, object_steps)

pub returns-in_err-write_item_fields : goal.returns-in_err-write_item_fields
unfolding item_json
returns-in_err-write_item_fields g c = grind (arith, object_steps)

pub returns : goal.returns
unfolding item_json
returns g c = grind (arith, object_steps)
