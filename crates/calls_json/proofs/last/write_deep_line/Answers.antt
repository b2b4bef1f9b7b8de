use Rattle.std.proofs.Common.{arith}
use Rattle.json_lines.proofs.Lines.{line_steps}
use Rattle.calls_json.specs.LastFields.{deep_line}
use Rattle.calls_json.proofs.last.write_deep_line.Goals as goal

pub returns-in_err-begin_line : goal.returns-in_err-begin_line
unfolding deep_line
returns-in_err-begin_line g c = grind (arith, line_steps)

pub returns-in_err-write_deep_fields : goal.returns-in_err-write_deep_fields
unfolding deep_line
returns-in_err-write_deep_fields g c = grind (arith, line_steps)

pub returns : goal.returns
unfolding deep_line
returns g c = grind (arith, line_steps)
