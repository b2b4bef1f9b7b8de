use Rattle.std.proofs.Common.{arith}
use Rattle.json_lines.proofs.Lines.{line_steps}
use Rattle.debug_json.specs.StepFields.{step_line}
use Rattle.debug_json.proofs.step.write_step.Goals as goal

pub returns-in_err-begin_line : goal.returns-in_err-begin_line
unfolding step_line
returns-in_err-begin_line g c = grind (arith, line_steps)

pub returns-in_err-write_step_fields : goal.returns-in_err-write_step_fields
unfolding step_line
returns-in_err-write_step_fields g c = grind (arith, line_steps)

pub returns : goal.returns
unfolding step_line
returns g c = grind (arith, line_steps)
