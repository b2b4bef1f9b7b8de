use Rattle.std.proofs.Common.{arith}
use Rattle.json_lines.proofs.Lines.{fields_steps}
use Rattle.debug_json.specs.RefusedFields.{no_item_fields}
use Rattle.debug_json.proofs.refused.write_no_item_fields.Goals as goal

pub returns-in_err-write_coded : goal.returns-in_err-write_coded
unfolding no_item_fields
returns-in_err-write_coded g c = grind (arith, fields_steps)

pub returns : goal.returns
unfolding no_item_fields
returns g c = grind (arith, fields_steps)
