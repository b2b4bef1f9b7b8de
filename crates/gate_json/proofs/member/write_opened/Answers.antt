use Rattle.std.proofs.Common.{arith}
use Rattle.json_lines.proofs.Lines.{fields_steps}
use Rattle.gate_json.specs.MembersFields.{opened_fields}
use Rattle.gate_json.proofs.member.write_opened.Goals as goal

pub returns-in_err-write_content : goal.returns-in_err-write_content
unfolding opened_fields
returns-in_err-write_content g c = grind (arith, fields_steps)

pub returns : goal.returns
unfolding opened_fields
returns g c = grind (arith, fields_steps)
