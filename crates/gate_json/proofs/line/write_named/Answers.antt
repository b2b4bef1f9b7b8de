use Rattle.std.proofs.Common.{arith}
use Rattle.json_lines.proofs.Lines.{fields_steps}
use Rattle.gate_json.specs.VerdictFields.{named_fields}
use Rattle.gate_json.proofs.line.write_named.Goals as goal

pub returns-in_err-write_file : goal.returns-in_err-write_file
unfolding named_fields
returns-in_err-write_file g c = grind (arith, fields_steps)

pub returns : goal.returns
unfolding named_fields
returns g c = grind (arith, fields_steps)
