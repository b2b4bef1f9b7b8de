use Rattle.std.proofs.Common.{arith}
use Rattle.json_lines.proofs.Lines.{fields_steps}
use Rattle.debug_json.specs.ShownFields.{entry_fields}
use Rattle.debug_json.proofs.memo.write_entry_fields.Goals as goal

pub returns-in_err-write_number_field : goal.returns-in_err-write_number_field
unfolding entry_fields
returns-in_err-write_number_field g c = grind (arith, fields_steps)

pub returns : goal.returns
unfolding entry_fields
returns g c = grind (arith, fields_steps)
