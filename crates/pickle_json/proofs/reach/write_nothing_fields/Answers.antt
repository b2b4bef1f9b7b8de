use Rattle.std.proofs.Common.{arith}
use Rattle.json_lines.proofs.Lines.{fields_steps}
use Rattle.pickle_json.proofs.reach.write_nothing_fields.Goals as goal

pub returns-in_err-write_how : goal.returns-in_err-write_how
returns-in_err-write_how g c = grind (arith, fields_steps)

pub returns-in_err-write_number_field : goal.returns-in_err-write_number_field
returns-in_err-write_number_field g c = grind (arith, fields_steps)

pub returns : goal.returns
returns g c = grind (arith, fields_steps)
