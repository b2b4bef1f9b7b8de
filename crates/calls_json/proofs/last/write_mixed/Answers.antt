use Rattle.std.proofs.Common.{arith}
use Rattle.json_lines.proofs.Lines.{line_steps}
use Rattle.calls_json.specs.LastFields.{mixed_line}
use Rattle.calls_json.proofs.last.write_mixed.Goals as goal

pub returns-in_err-begin_line : goal.returns-in_err-begin_line
unfolding mixed_line
returns-in_err-begin_line g c = grind (arith, line_steps)

pub returns-in_err-write_mixed_fields : goal.returns-in_err-write_mixed_fields
unfolding mixed_line
returns-in_err-write_mixed_fields g c = grind (arith, line_steps)

pub returns : goal.returns
unfolding mixed_line
returns g c = grind (arith, line_steps)
