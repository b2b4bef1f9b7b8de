use Rattle.std.proofs.Common.{arith}
use Rattle.json_lines.proofs.Lines.{line_steps}
use Rattle.gate_json.specs.GateLine.{named_line}
use Rattle.gate_json.proofs.line.write_named_line.Goals as goal

pub returns-in_err-begin_line : goal.returns-in_err-begin_line
unfolding named_line
returns-in_err-begin_line g c = grind (arith, line_steps)

pub returns-in_err-write_named : goal.returns-in_err-write_named
unfolding named_line
returns-in_err-write_named g c = grind (arith, line_steps)

pub returns : goal.returns
unfolding named_line
returns g c = grind (arith, line_steps)
