use Rattle.std.proofs.Common.{arith}
use Rattle.json_lines.proofs.Lines.{line_steps}
use Rattle.debug_json.specs.StepFields.{no_step_line}
use Rattle.debug_json.proofs.step.write_no_step.Goals as goal

pub returns-in_err-begin_line : goal.returns-in_err-begin_line
unfolding no_step_line
returns-in_err-begin_line g c = grind (arith, line_steps)

pub returns-in_err-write_no_step_fields : goal.returns-in_err-write_no_step_fields
unfolding no_step_line
returns-in_err-write_no_step_fields g c = grind (arith, line_steps)

pub returns : goal.returns
unfolding no_step_line
returns g c = grind (arith, line_steps)
