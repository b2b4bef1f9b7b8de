use Rattle.std.proofs.Common.{arith}
use Rattle.json_lines.proofs.Lines.{fields_steps}
use Rattle.pickle_json.specs.FormFields.{why_fields}
use Rattle.pickle_json.proofs.form.write_why.Goals as goal

pub returns-in_err-write_text_field : goal.returns-in_err-write_text_field
unfolding why_fields
returns-in_err-write_text_field g c = grind (arith, fields_steps)

pub returns : goal.returns
unfolding why_fields
returns g c = grind (arith, fields_steps)
