use Rattle.std.proofs.Common.{arith}
use Rattle.json_lines.proofs.Lines.{line_steps}
use Rattle.calls_json.specs.LastFields.{status_line}
use Rattle.calls_json.proofs.last.write_status.Goals as goal

pub returns-in_err-begin_line : goal.returns-in_err-begin_line
unfolding status_line
returns-in_err-begin_line g c = grind (arith, line_steps)

pub returns-in_err-write_number_field : goal.returns-in_err-write_number_field
unfolding status_line
returns-in_err-write_number_field g c = grind (arith, line_steps)

pub returns : goal.returns
unfolding status_line
returns g c = grind (arith, line_steps)
