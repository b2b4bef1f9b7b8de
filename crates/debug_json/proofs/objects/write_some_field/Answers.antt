use Rattle.std.proofs.Common.{arith}
use Rattle.json_lines.proofs.Lines.{field_steps}
use Rattle.debug_json.specs.OwnFields.{some_heap_fields}
use Rattle.debug_json.proofs.objects.write_some_field.Goals as goal

pub returns-in_err-write_name : goal.returns-in_err-write_name
unfolding some_heap_fields
returns-in_err-write_name g c = grind (arith, field_steps)

pub returns : goal.returns
unfolding some_heap_fields
returns g c = grind (arith, field_steps)
