use Rattle.std.proofs.Common.{arith}
use Rattle.json_lines.proofs.Lines.{fields_steps}
use Rattle.pickle_json.specs.EndFields.{told_fields}
use Rattle.pickle_json.proofs.ends.write_told.Goals as goal

pub returns-in_err-write_how : goal.returns-in_err-write_how
unfolding told_fields
returns-in_err-write_how g c = grind (arith, fields_steps)

pub returns-in_err-write_coded : goal.returns-in_err-write_coded
unfolding told_fields
returns-in_err-write_coded g c = grind (arith, fields_steps)

pub returns : goal.returns
unfolding told_fields
returns g c = grind (arith, fields_steps)
