use Rattle.std.proofs.Common.{arith}
use Rattle.json_lines.proofs.Lines.{fields_steps}
use Rattle.debug_json.specs.ShownFields.{mark_fields}
use Rattle.debug_json.proofs.stack.write_mark_fields.Goals as goal

pub returns-in_err-write_number_field : goal.returns-in_err-write_number_field
unfolding mark_fields
returns-in_err-write_number_field g c = grind (arith, fields_steps)

pub returns : goal.returns
unfolding mark_fields
returns g c = grind (arith, fields_steps)
