use Rattle.std.proofs.Common.{arith}
use Rattle.json_lines.proofs.Lines.{line_steps}
use Rattle.gate_json.specs.GateLine.{verdict_line}
use Rattle.gate_json.proofs.line.write_verdict_line.Goals as goal

pub returns-in_err-begin_line : goal.returns-in_err-begin_line
unfolding verdict_line
returns-in_err-begin_line g c = grind (arith, line_steps)

pub returns-in_err-write_told : goal.returns-in_err-write_told
unfolding verdict_line
returns-in_err-write_told g c = grind (arith, line_steps)

pub returns : goal.returns
unfolding verdict_line
returns g c = grind (arith, line_steps)
