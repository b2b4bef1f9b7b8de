use Rattle.std.proofs.Common.{arith}
use Rattle.json_lines.proofs.Lines.{fields_steps}
use Rattle.gate_json.specs.VerdictFields.{told_fields}
use Rattle.gate_json.proofs.line.write_told.Goals as goal

pub returns-in_err-write_judged : goal.returns-in_err-write_judged
unfolding told_fields
returns-in_err-write_judged g c = grind (arith, fields_steps)

pub returns : goal.returns
unfolding told_fields
returns g c = grind (arith, fields_steps)
