use Rattle.std.proofs.Common.{arith}
use Rattle.json_lines.proofs.Lines.{line_steps}
use Rattle.calls_json.specs.MixFields.{above_line}
use Rattle.calls_json.proofs.mixes.write_above.Goals as goal

pub returns-in_err-begin_line : goal.returns-in_err-begin_line
unfolding above_line
returns-in_err-begin_line g c = grind (arith, line_steps)

pub returns-in_err-write_above_shown : goal.returns-in_err-write_above_shown
unfolding above_line
returns-in_err-write_above_shown g c = grind (arith, line_steps)

pub returns : goal.returns
unfolding above_line
returns g c = grind (arith, line_steps)
