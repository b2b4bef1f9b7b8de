use Rattle.std.proofs.Common.{arith}
use Rattle.json_lines.proofs.Lines.{line_steps}
use Rattle.debug_json.specs.OwnFields.{breaks_line}
use Rattle.debug_json.proofs.breaks.write_breaks.Goals as goal

pub returns-in_err-begin_line : goal.returns-in_err-begin_line
unfolding breaks_line
returns-in_err-begin_line g c = grind (arith, line_steps)

pub returns-in_err-write_field : goal.returns-in_err-write_field
unfolding breaks_line
returns-in_err-write_field g c = grind (arith, line_steps)

pub returns : goal.returns
unfolding breaks_line
returns g c = grind (arith, line_steps)
