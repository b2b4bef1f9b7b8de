use Rattle.std.proofs.Common.{arith}
use Rattle.json_lines.proofs.Lines.{fields_steps}
use Rattle.gate_json.specs.VerdictFields.{broken_fields}
use Rattle.gate_json.proofs.fields.write_broken_words.Goals as goal

pub returns-in_err-write_how : goal.returns-in_err-write_how
unfolding broken_fields
returns-in_err-write_how g c = grind (arith, fields_steps)

pub returns : goal.returns
unfolding broken_fields
returns g c = grind (arith, fields_steps)
