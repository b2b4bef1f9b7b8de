use Rattle.std.proofs.Common.{arith}
use Rattle.json_lines.proofs.Lines.{line_steps}
use Rattle.objects_json.specs.Objects.{fault_line}
use Rattle.objects_json.proofs.objects.write_fault.Goals as goal

pub returns-in_err-begin_line : goal.returns-in_err-begin_line
unfolding fault_line
returns-in_err-begin_line g c = grind (arith, line_steps)

pub returns-in_err-write_tail_fields : goal.returns-in_err-write_tail_fields
unfolding fault_line
returns-in_err-write_tail_fields g c = grind (arith, line_steps)

pub returns : goal.returns
unfolding fault_line
returns g c = grind (arith, line_steps)
