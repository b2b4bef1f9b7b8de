use Rattle.std.proofs.Common.{arith}
use Rattle.same_script.proofs.Ends.{end_steps}
use Rattle.same_script.proofs.line.write_end_object.Goals as goal

pub returns-in_err-begin_line : goal.returns-in_err-begin_line
returns-in_err-begin_line g c = grind (arith, end_steps)

pub returns-in_err-write_closing : goal.returns-in_err-write_closing
returns-in_err-write_closing g c = grind (arith, end_steps)

pub returns : goal.returns
returns g c = grind (arith, end_steps)
