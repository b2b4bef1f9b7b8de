use Rattle.std.proofs.Common.{arith}
use Rattle.json_lines.proofs.Lines.{line_steps}
use Rattle.gate_json.specs.MembersFields.{opened_line}
use Rattle.gate_json.proofs.member.write_opened_line.Goals as goal

pub returns-in_err-begin_line : goal.returns-in_err-begin_line
unfolding opened_line
returns-in_err-begin_line g c = grind (arith, line_steps)

pub returns-in_err-write_opened : goal.returns-in_err-write_opened
unfolding opened_line
returns-in_err-write_opened g c = grind (arith, line_steps)

pub returns : goal.returns
unfolding opened_line
returns g c = grind (arith, line_steps)
