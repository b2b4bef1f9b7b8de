use Rattle.std.proofs.Common.{arith}
use Rattle.json_lines.proofs.Lines.{line_steps}
use Rattle.gate_json.specs.MembersFields.{tarred_line}
use Rattle.gate_json.proofs.member.write_tarred_line.Goals as goal

pub returns-in_err-begin_line : goal.returns-in_err-begin_line
unfolding tarred_line
returns-in_err-begin_line g c = grind (arith, line_steps)

pub returns-in_err-write_tarred : goal.returns-in_err-write_tarred
unfolding tarred_line
returns-in_err-write_tarred g c = grind (arith, line_steps)

pub returns : goal.returns
unfolding tarred_line
returns g c = grind (arith, line_steps)
