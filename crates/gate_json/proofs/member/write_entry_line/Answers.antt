use Rattle.std.proofs.Common.{arith}
use Rattle.json_lines.proofs.Lines.{line_steps}
use Rattle.gate_json.specs.MembersFields.{entry_line}
use Rattle.gate_json.proofs.member.write_entry_line.Goals as goal

pub returns-in_err-begin_line : goal.returns-in_err-begin_line
unfolding entry_line
returns-in_err-begin_line g c = grind (arith, line_steps)

pub returns-in_err-write_entry : goal.returns-in_err-write_entry
unfolding entry_line
returns-in_err-write_entry g c = grind (arith, line_steps)

pub returns : goal.returns
unfolding entry_line
returns g c = grind (arith, line_steps)
