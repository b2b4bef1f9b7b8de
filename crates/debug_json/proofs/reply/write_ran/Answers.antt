use Rattle.std.proofs.Common.{arith}
use Rattle.json_lines.proofs.Lines.{line_steps}
use Rattle.debug_json.specs.ReplyFields.{ran_line}
use Rattle.debug_json.proofs.reply.write_ran.Goals as goal

pub returns-in_err-begin_line : goal.returns-in_err-begin_line
unfolding ran_line
returns-in_err-begin_line g c = grind (arith, line_steps)

pub returns-in_err-write_ran_fields : goal.returns-in_err-write_ran_fields
unfolding ran_line
returns-in_err-write_ran_fields g c = grind (arith, line_steps)

pub returns : goal.returns
unfolding ran_line
returns g c = grind (arith, line_steps)
