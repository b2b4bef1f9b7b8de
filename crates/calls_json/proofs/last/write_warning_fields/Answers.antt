use Rattle.std.proofs.Common.{arith}
use Rattle.json_lines.proofs.Lines.{fields_steps}
use Rattle.calls_json.specs.LastFields.{warning_fields}
use Rattle.calls_json.proofs.last.write_warning_fields.Goals as goal

pub returns-in_err-write_text_field : goal.returns-in_err-write_text_field
unfolding warning_fields
returns-in_err-write_text_field g c = grind (arith, fields_steps)

pub returns-in_err-write_id : goal.returns-in_err-write_id
unfolding warning_fields
returns-in_err-write_id g c = grind (arith, fields_steps)

pub returns : goal.returns
unfolding warning_fields
returns g c = grind (arith, fields_steps)
