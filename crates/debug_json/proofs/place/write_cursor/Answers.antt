use Rattle.std.proofs.Common.{arith}
use Rattle.json_lines.proofs.Lines.{fields_steps}
use Rattle.debug_json.specs.WhereFields.{cursor_fields}
use Rattle.debug_json.proofs.place.write_cursor.Goals as goal

pub returns-in_err-write_place : goal.returns-in_err-write_place
unfolding cursor_fields
returns-in_err-write_place g c = grind (arith, fields_steps)

pub returns-in_err-write_number_field : goal.returns-in_err-write_number_field
unfolding cursor_fields
returns-in_err-write_number_field g c = grind (arith, fields_steps)

pub returns : goal.returns
unfolding cursor_fields
returns g c = grind (arith, fields_steps)
