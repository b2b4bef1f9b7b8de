use Rattle.std.proofs.Common.{arith}
use Rattle.json_lines.proofs.Lines.{line_steps}
use Rattle.calls_json.specs.LastFields.{refused_line}
use Rattle.calls_json.proofs.last.write_refused.Goals as goal

pub returns-in_err-begin_line : goal.returns-in_err-begin_line
unfolding refused_line
returns-in_err-begin_line g c = grind (arith, line_steps)

pub returns-in_err-write_refused_shown : goal.returns-in_err-write_refused_shown
unfolding refused_line
returns-in_err-write_refused_shown g c = grind (arith, line_steps)

pub returns : goal.returns
unfolding refused_line
returns g c = grind (arith, line_steps)
