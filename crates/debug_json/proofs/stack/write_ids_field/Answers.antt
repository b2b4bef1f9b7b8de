use Rattle.std.proofs.Common.{arith}
use Rattle.json_lines.proofs.Lines.{field_steps}
use Rattle.debug_json.specs.ShownFields.{ids_field}
use Rattle.debug_json.proofs.stack.write_ids_field.Goals as goal

pub returns-in_err-write_name : goal.returns-in_err-write_name
unfolding ids_field
returns-in_err-write_name g c = grind (arith, field_steps)

pub returns : goal.returns
unfolding ids_field
returns g c = grind (arith, field_steps)
