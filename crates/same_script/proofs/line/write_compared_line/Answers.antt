use Rattle.std.proofs.Common.{arith}
use Rattle.json_lines.proofs.Lines.{line_steps}
use Rattle.same_script.specs.SameFields.{compared_line}
use Rattle.same_script.proofs.line.write_compared_line.Goals as goal

pub returns-in_err-begin_line : goal.returns-in_err-begin_line
unfolding compared_line
returns-in_err-begin_line g c = grind (arith, line_steps)

pub returns-in_err-write_compared : goal.returns-in_err-write_compared
unfolding compared_line
returns-in_err-write_compared g c = grind (arith, line_steps)

pub returns : goal.returns
unfolding compared_line
returns g c = grind (arith, line_steps)
