use Rattle.std.proofs.Common.{arith}
use Rattle.json_lines.proofs.Lines.{line_steps}
use Rattle.pickle_json.specs.EndFields.{fault_end}
use Rattle.pickle_json.proofs.ends.write_fault_end.Goals as goal

pub returns-in_err-begin_line : goal.returns-in_err-begin_line
unfolding fault_end
returns-in_err-begin_line g c = grind (arith, line_steps)

pub returns-in_err-write_tail_fields : goal.returns-in_err-write_tail_fields
unfolding fault_end
returns-in_err-write_tail_fields g c = grind (arith, line_steps)

pub returns : goal.returns
unfolding fault_end
returns g c = grind (arith, line_steps)
