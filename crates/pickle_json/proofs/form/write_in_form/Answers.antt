use Rattle.std.proofs.Common.{arith}
use Rattle.json_lines.proofs.Lines.{line_steps}
use Rattle.pickle_json.specs.FormFields.{in_form_line}
use Rattle.pickle_json.proofs.form.write_in_form.Goals as goal

pub returns-in_err-begin_line : goal.returns-in_err-begin_line
unfolding in_form_line
returns-in_err-begin_line g c = grind (arith, line_steps)

pub returns-in_err-write_in_form_fields : goal.returns-in_err-write_in_form_fields
unfolding in_form_line
returns-in_err-write_in_form_fields g c = grind (arith, line_steps)

pub returns : goal.returns
unfolding in_form_line
returns g c = grind (arith, line_steps)
