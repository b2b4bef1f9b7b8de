use Rattle.std.proofs.Common.{arith}
use Rattle.json_lines.proofs.Lines.{fields_steps}
use Rattle.calls_json.specs.EventFields.{call_with_fields}
use Rattle.calls_json.proofs.event.write_call_with.Goals as goal

pub returns-in_err-write_call : goal.returns-in_err-write_call
unfolding call_with_fields
returns-in_err-write_call g c = grind (arith, fields_steps)

pub returns : goal.returns
unfolding call_with_fields
returns g c = grind (arith, fields_steps)
