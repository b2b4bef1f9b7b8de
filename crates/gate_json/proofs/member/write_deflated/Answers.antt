use Rattle.std.proofs.Common.{arith}
use Rattle.json_lines.proofs.Lines.{fields_steps}
use Rattle.gate_json.specs.MembersFields.{deflated_fields}
use Rattle.gate_json.proofs.member.write_deflated.Goals as goal

pub returns-in_err-write_method : goal.returns-in_err-write_method
unfolding deflated_fields
returns-in_err-write_method g c = grind (arith, fields_steps)

pub returns : goal.returns
unfolding deflated_fields
returns g c = grind (arith, fields_steps)
