use Rattle.std.proofs.Common.{arith}
use Rattle.json_lines.proofs.Lines.{fields_steps}
use Rattle.debug_json.specs.WhereFields.{count_fields}
use Rattle.debug_json.proofs.place.write_counts.Goals as goal

pub returns-in_err-write_number_field : goal.returns-in_err-write_number_field
unfolding count_fields
returns-in_err-write_number_field g c = grind (arith, fields_steps)

pub returns-in_err-write_number_field-2 : goal.returns-in_err-write_number_field-2
unfolding count_fields
returns-in_err-write_number_field-2 g c = grind (arith, fields_steps)

pub returns-in_err-write_number_field-3 : goal.returns-in_err-write_number_field-3
unfolding count_fields
returns-in_err-write_number_field-3 g c = grind (arith, fields_steps)

pub returns : goal.returns
unfolding count_fields
returns g c = grind (arith, fields_steps)
