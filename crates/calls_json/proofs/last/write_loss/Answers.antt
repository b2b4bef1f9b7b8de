use Rattle.std.proofs.Common.{arith}
use Rattle.json_lines.proofs.Lines.{line_steps}
use Rattle.calls_json.specs.LastFields.{loss_line}
use Rattle.calls_json.proofs.last.write_loss.Goals as goal

pub returns-in_err-begin_line : goal.returns-in_err-begin_line
unfolding loss_line
returns-in_err-begin_line g c = grind (arith, line_steps)

pub returns-in_err-write_loss_fields : goal.returns-in_err-write_loss_fields
unfolding loss_line
returns-in_err-write_loss_fields g c = grind (arith, line_steps)

pub returns : goal.returns
unfolding loss_line
returns g c = grind (arith, line_steps)
