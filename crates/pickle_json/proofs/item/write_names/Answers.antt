use Rattle.std.proofs.Common.{arith}
use Rattle.json_lines.proofs.Lines.{fields_steps}
use Rattle.pickle_json.specs.ItemFields.{names_fields}
use Rattle.pickle_json.proofs.item.write_names.Goals as goal

pub returns-in_err-write_bytes_field : goal.returns-in_err-write_bytes_field
unfolding names_fields
returns-in_err-write_bytes_field g c = grind (arith, fields_steps)

pub returns : goal.returns
unfolding names_fields
returns g c = grind (arith, fields_steps)
