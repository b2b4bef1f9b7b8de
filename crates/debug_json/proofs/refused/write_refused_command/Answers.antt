use Rattle.std.proofs.Common.{arith}
use Rattle.json_lines.proofs.Lines.{line_steps}
use Rattle.debug_json.specs.RefusedFields.{refused_command}
use Rattle.debug_json.proofs.refused.write_refused_command.Goals as goal

pub returns-in_err-begin_line : goal.returns-in_err-begin_line
unfolding refused_command
returns-in_err-begin_line g c = grind (arith, line_steps)

pub returns-in_err-write_fault : goal.returns-in_err-write_fault
unfolding refused_command
returns-in_err-write_fault g c = grind (arith, line_steps)

pub returns : goal.returns
unfolding refused_command
returns g c = grind (arith, line_steps)
