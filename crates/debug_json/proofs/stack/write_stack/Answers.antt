use Rattle.std.proofs.Common.{arith}
use Rattle.json_lines.proofs.Lines.{line_steps}
use Rattle.debug_json.specs.ShownFields.{stack_line}
use Rattle.debug_json.proofs.stack.write_stack.Goals as goal

pub returns-in_err-begin_line : goal.returns-in_err-begin_line
unfolding stack_line
returns-in_err-begin_line g c = grind (arith, line_steps)

pub returns-in_err-write_stack_fields : goal.returns-in_err-write_stack_fields
unfolding stack_line
returns-in_err-write_stack_fields g c = grind (arith, line_steps)

pub returns : goal.returns
unfolding stack_line
returns g c = grind (arith, line_steps)
