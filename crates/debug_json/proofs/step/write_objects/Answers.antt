use Rattle.std.proofs.Common.{arith}
use Rattle.json_lines.proofs.Lines.{fields_steps}
use Rattle.debug_json.specs.StepFields.{object_fields}
use Rattle.debug_json.proofs.step.write_objects.Goals as goal

pub returns-in_err-write_flag : goal.returns-in_err-write_flag
unfolding object_fields
returns-in_err-write_flag g c = grind (arith, fields_steps)

pub returns-in_err-write_optional : goal.returns-in_err-write_optional
unfolding object_fields
returns-in_err-write_optional g c = grind (arith, fields_steps)

pub returns-in_err-write_optional_id : goal.returns-in_err-write_optional_id
unfolding object_fields
returns-in_err-write_optional_id g c = grind (arith, fields_steps)

pub returns : goal.returns
unfolding object_fields
returns g c = grind (arith, fields_steps)
