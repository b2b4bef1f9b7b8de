use Rattle.std.proofs.Common.{arith}
use Rattle.json_lines.proofs.Lines.{line_steps}
use Rattle.gate_json.specs.MembersFields.{whole_line}
use Rattle.gate_json.proofs.member.write_whole.Goals as goal

pub returns-in_err-begin_line : goal.returns-in_err-begin_line
unfolding whole_line
returns-in_err-begin_line g c = grind (arith, line_steps)

pub returns-in_err-write_how : goal.returns-in_err-write_how
unfolding whole_line
returns-in_err-write_how g c = grind (arith, line_steps)

pub returns : goal.returns
unfolding whole_line
returns g c = grind (arith, line_steps)
