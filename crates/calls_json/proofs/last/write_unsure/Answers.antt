use Rattle.std.proofs.Common.{arith}
use Rattle.json_lines.proofs.Lines.{line_steps}
use Rattle.calls_json.specs.LastFields.{unsure_line}
use Rattle.calls_json.proofs.last.write_unsure.Goals as goal

pub returns-in_err-begin_line : goal.returns-in_err-begin_line
unfolding unsure_line
returns-in_err-begin_line g c = grind (arith, line_steps)

pub returns-in_err-write_unsure_shown : goal.returns-in_err-write_unsure_shown
unfolding unsure_line
returns-in_err-write_unsure_shown g c = grind (arith, line_steps)

pub returns : goal.returns
unfolding unsure_line
returns g c = grind (arith, line_steps)
