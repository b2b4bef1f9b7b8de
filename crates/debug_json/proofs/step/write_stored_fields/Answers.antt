use Rattle.std.proofs.Common.{arith}
use Rattle.json_lines.proofs.Lines.{fields_steps}
use Rattle.debug_json.specs.StepFields.{stored_fields}
use Rattle.debug_json.proofs.step.write_stored_fields.Goals as goal

pub returns-in_err-write_number_field : goal.returns-in_err-write_number_field
unfolding stored_fields
returns-in_err-write_number_field g c = grind (arith, fields_steps)

pub returns-in_err-write_number_field-2 : goal.returns-in_err-write_number_field-2
unfolding stored_fields
returns-in_err-write_number_field-2 g c = grind (arith, fields_steps)

pub returns : goal.returns
unfolding stored_fields
returns g c = grind (arith, fields_steps)
