use Rattle.std.proofs.Common.{arith}
use Rattle.json_lines.proofs.Lines.{fields_steps}
use Rattle.objects_json.specs.ObjectFields.{pair_fields}
use Rattle.objects_json.proofs.change.write_pair.Goals as goal

pub returns-in_err-write_number_field : goal.returns-in_err-write_number_field
unfolding pair_fields
returns-in_err-write_number_field g c = grind (arith, fields_steps)

pub returns : goal.returns
unfolding pair_fields
returns g c = grind (arith, fields_steps)
