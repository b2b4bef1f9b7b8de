use Rattle.std.proofs.Common.{arith}
use Rattle.json_lines.proofs.Lines.{fields_steps}
use Rattle.debug_json.proofs.stack.write_stack_fields.Goals as goal

pub returns-in_err-write_ids_field : goal.returns-in_err-write_ids_field
returns-in_err-write_ids_field g c = grind (arith, fields_steps)

pub returns : goal.returns
returns g c = grind (arith, fields_steps)
