use Rattle.std.proofs.Common.{arith}
use Rattle.json_lines.proofs.Lines.{fields_steps}
use Rattle.gate_json.specs.VerdictFields.{unsure_fields}
use Rattle.gate_json.proofs.verdict.write_unsure.Goals as goal

pub returns-in_err-write_how : goal.returns-in_err-write_how
unfolding unsure_fields
returns-in_err-write_how g c = grind (arith, fields_steps)

pub returns : goal.returns
unfolding unsure_fields
returns g c = grind (arith, fields_steps)
