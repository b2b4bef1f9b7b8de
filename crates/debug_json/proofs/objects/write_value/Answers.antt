use Rattle.std.proofs.Common.{arith}
use Rattle.debug_json.proofs.Arrays.{object_steps}
use Rattle.debug_json.specs.ShownFields.{heap_json}
use Rattle.debug_json.proofs.objects.write_value.Goals as goal

pub returns-in_err-begin_line : goal.returns-in_err-begin_line
unfolding heap_json
returns-in_err-begin_line g c = grind (arith, object_steps)

pub returns-in_err-write_object_fields : goal.returns-in_err-write_object_fields
unfolding heap_json
returns-in_err-write_object_fields g c = grind (arith, object_steps)

pub returns : goal.returns
unfolding heap_json
returns g c = grind (arith, object_steps)
