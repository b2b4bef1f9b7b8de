use Rattle.std.proofs.Common.{arith}
use Rattle.json_lines.proofs.Lines.{line_steps}
use Rattle.calls_json.specs.MixFields.{below_line}
use Rattle.calls_json.proofs.mixes.write_below.Goals as goal

pub returns-in_err-begin_line : goal.returns-in_err-begin_line
unfolding below_line
returns-in_err-begin_line g c = grind (arith, line_steps)

pub returns-in_err-write_below_fields : goal.returns-in_err-write_below_fields
unfolding below_line
returns-in_err-write_below_fields g c = grind (arith, line_steps)

pub returns : goal.returns
unfolding below_line
returns g c = grind (arith, line_steps)
