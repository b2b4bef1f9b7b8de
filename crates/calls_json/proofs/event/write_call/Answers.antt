use Rattle.std.proofs.Common.{arith}
use Rattle.json_lines.proofs.Lines.{fields_steps}
use Rattle.calls_json.specs.EventFields.{call_fields}
use Rattle.calls_json.proofs.event.write_call.Goals as goal

pub returns-in_err-write_callee : goal.returns-in_err-write_callee
unfolding call_fields
returns-in_err-write_callee g c = grind (arith, fields_steps)

pub returns : goal.returns
unfolding call_fields
returns g c = grind (arith, fields_steps)
