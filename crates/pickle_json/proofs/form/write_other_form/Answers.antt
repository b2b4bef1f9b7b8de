use Rattle.std.proofs.Common.{arith}
use Rattle.json_lines.proofs.Lines.{line_steps}
use Rattle.pickle_json.specs.FormFields.{other_line}
use Rattle.pickle_json.proofs.form.write_other_form.Goals as goal

pub returns-in_err-begin_line : goal.returns-in_err-begin_line
unfolding other_line
returns-in_err-begin_line g c = grind (arith, line_steps)

pub returns-in_err-write_other_fields : goal.returns-in_err-write_other_fields
unfolding other_line
returns-in_err-write_other_fields g c = grind (arith, line_steps)

pub returns : goal.returns
unfolding other_line
returns g c = grind (arith, line_steps)
