use Rattle.std.proofs.Common.{arith}
use Rattle.json_lines.proofs.Lines.{fields_steps}
use Rattle.calls_json.proofs.last.write_unsure_fields.Goals as goal

pub returns-in_err-write_how : goal.returns-in_err-write_how
returns-in_err-write_how g c = grind (arith, fields_steps)

pub returns-in_err-write_coded : goal.returns-in_err-write_coded
returns-in_err-write_coded g c = grind (arith, fields_steps)

pub returns : goal.returns
returns g c = grind (arith, fields_steps)
