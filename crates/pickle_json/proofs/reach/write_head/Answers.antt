use Rattle.std.proofs.Common.{arith}
use Rattle.json_lines.proofs.Lines.{fields_steps}
use Rattle.pickle_json.specs.ItemFields.{head_fields}
use Rattle.pickle_json.proofs.reach.write_head.Goals as goal

pub returns-in_err-write_number_field : goal.returns-in_err-write_number_field
unfolding head_fields
returns-in_err-write_number_field g c = grind (arith, fields_steps)

pub returns : goal.returns
unfolding head_fields
returns g c = grind (arith, fields_steps)
