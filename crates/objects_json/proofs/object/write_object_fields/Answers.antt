use Rattle.std.proofs.Common.{arith}
use Rattle.json_lines.proofs.Lines.{fields_steps}
use Rattle.objects_json.proofs.object.write_object_fields.Goals as goal

pub returns-in_err-write_head : goal.returns-in_err-write_head
returns-in_err-write_head g c = grind (arith, fields_steps)

pub returns-in_err-write_kind_fields : goal.returns-in_err-write_kind_fields
returns-in_err-write_kind_fields g c = grind (arith, fields_steps)

pub returns : goal.returns
returns g c = grind (arith, fields_steps)
