use Rattle.std.proofs.Common.{arith}
use Rattle.json_lines.proofs.Lines.{fields_steps}
use Rattle.debug_json.specs.StepFields.{change_fields}
use Rattle.debug_json.proofs.step.write_change_fields.Goals as goal

pub returns-in_err-write_number_field : goal.returns-in_err-write_number_field
unfolding change_fields
returns-in_err-write_number_field g c = grind (arith, fields_steps)

pub returns : goal.returns
unfolding change_fields
returns g c = grind (arith, fields_steps)
