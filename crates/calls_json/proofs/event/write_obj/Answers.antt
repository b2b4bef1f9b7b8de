use Rattle.std.proofs.Common.{arith}
use Rattle.json_lines.proofs.Lines.{fields_steps}
use Rattle.calls_json.specs.EventFields.{obj_fields}
use Rattle.calls_json.proofs.event.write_obj.Goals as goal

pub returns-in_err-write_callee : goal.returns-in_err-write_callee
unfolding obj_fields
returns-in_err-write_callee g c = grind (arith, fields_steps)

pub returns : goal.returns
unfolding obj_fields
returns g c = grind (arith, fields_steps)
