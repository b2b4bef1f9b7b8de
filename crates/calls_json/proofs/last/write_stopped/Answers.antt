use Rattle.std.proofs.Common.{arith}
use Rattle.json_lines.proofs.Lines.{line_steps}
use Rattle.calls_json.specs.LastFields.{stopped_line}
use Rattle.calls_json.proofs.last.write_stopped.Goals as goal

pub returns-in_err-begin_line : goal.returns-in_err-begin_line
unfolding stopped_line
returns-in_err-begin_line g c = grind (arith, line_steps)

pub returns-in_err-write_stopped_shown : goal.returns-in_err-write_stopped_shown
unfolding stopped_line
returns-in_err-write_stopped_shown g c = grind (arith, line_steps)

pub returns : goal.returns
unfolding stopped_line
returns g c = grind (arith, line_steps)
