use Rattle.std.proofs.Common.{arith}
use Rattle.json_lines.proofs.Lines.{fields_steps}
use Rattle.gate_json.specs.VerdictFields.{placed_fields}
use Rattle.gate_json.proofs.fields.write_placed.Goals as goal

pub returns-in_err-write_how : goal.returns-in_err-write_how
unfolding placed_fields
returns-in_err-write_how g c = grind (arith, fields_steps)

pub returns-in_err-write_offset : goal.returns-in_err-write_offset
unfolding placed_fields
returns-in_err-write_offset g c = grind (arith, fields_steps)

pub returns : goal.returns
unfolding placed_fields
returns g c = grind (arith, fields_steps)
