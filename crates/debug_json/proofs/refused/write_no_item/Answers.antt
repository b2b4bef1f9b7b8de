use Rattle.std.proofs.Common.{arith}
use Rattle.json_lines.proofs.Lines.{line_steps}
use Rattle.debug_json.specs.RefusedFields.{no_item_line}
use Rattle.debug_json.proofs.refused.write_no_item.Goals as goal

pub returns-in_err-begin_line : goal.returns-in_err-begin_line
unfolding no_item_line
returns-in_err-begin_line g c = grind (arith, line_steps)

pub returns-in_err-write_no_item_fields : goal.returns-in_err-write_no_item_fields
unfolding no_item_line
returns-in_err-write_no_item_fields g c = grind (arith, line_steps)

pub returns : goal.returns
unfolding no_item_line
returns g c = grind (arith, line_steps)
