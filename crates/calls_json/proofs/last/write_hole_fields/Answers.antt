use Rattle.std.proofs.Common.{arith}
use Rattle.json_lines.proofs.Lines.{fields_steps}
use Rattle.calls_json.specs.LastFields.{hole_fields}
use Rattle.calls_json.proofs.last.write_hole_fields.Goals as goal

pub returns-in_err-write_number_field : goal.returns-in_err-write_number_field
unfolding hole_fields
returns-in_err-write_number_field g c = grind (arith, fields_steps)

pub returns-in_err-write_number_field-2 : goal.returns-in_err-write_number_field-2
unfolding hole_fields
returns-in_err-write_number_field-2 g c = grind (arith, fields_steps)

pub returns : goal.returns
unfolding hole_fields
returns g c = grind (arith, fields_steps)
