use Rattle.std.proofs.Common.{arith}
use Rattle.json_lines.proofs.Lines.{fields_steps}
use Rattle.gate_json.specs.MembersFields.{content_fields}
use Rattle.gate_json.proofs.member.write_content.Goals as goal

pub returns-in_err-write_name : goal.returns-in_err-write_name
unfolding content_fields
returns-in_err-write_name g c = grind (arith, fields_steps)

pub returns-in_err-write_offset : goal.returns-in_err-write_offset
unfolding content_fields
returns-in_err-write_offset g c = grind (arith, fields_steps)

pub returns : goal.returns
unfolding content_fields
returns g c = grind (arith, fields_steps)
