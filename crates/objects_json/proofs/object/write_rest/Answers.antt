use Rattle.std.proofs.Common.{arith}
use Rattle.json_lines.proofs.Lines.{fields_steps}
use Rattle.objects_json.specs.ObjectFields.{rest_fields}
use Rattle.objects_json.proofs.object.write_rest.Goals as goal

pub returns-in_err-write_parts : goal.returns-in_err-write_parts
unfolding rest_fields
returns-in_err-write_parts g c = grind (arith, fields_steps)

pub returns : goal.returns
unfolding rest_fields
returns g c = grind (arith, fields_steps)
