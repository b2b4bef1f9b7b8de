use Rattle.std.proofs.Common.{arith}
use Rattle.json_lines.proofs.Lines.{fields_steps}
use Rattle.debug_json.specs.ItemsFields.{sign_fields}
use Rattle.debug_json.proofs.items.write_signs.Goals as goal

pub returns-in_err-write_bool_field : goal.returns-in_err-write_bool_field
unfolding sign_fields
returns-in_err-write_bool_field g c = grind (arith, fields_steps)

pub returns : goal.returns
unfolding sign_fields
returns g c = grind (arith, fields_steps)
