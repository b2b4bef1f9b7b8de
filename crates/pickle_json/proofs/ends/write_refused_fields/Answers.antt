use Rattle.std.proofs.Common.{arith}
use Rattle.json_lines.proofs.Lines.{fields_steps}
use Rattle.pickle_json.proofs.ends.write_refused_fields.Goals as goal

pub returns-in_err-write_how : goal.returns-in_err-write_how
returns-in_err-write_how g c = grind (arith, fields_steps)

pub returns-in_err-write_coded : goal.returns-in_err-write_coded
returns-in_err-write_coded g c = grind (arith, fields_steps)

pub returns-in_err-write_refusal_fields : goal.returns-in_err-write_refusal_fields
returns-in_err-write_refusal_fields g c = grind (arith, fields_steps)

pub returns : goal.returns
returns g c = grind (arith, fields_steps)
