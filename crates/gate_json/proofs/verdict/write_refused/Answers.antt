use Rattle.std.proofs.Common.{arith}
use Rattle.json_lines.proofs.Lines.{fields_steps}
use Rattle.gate_json.proofs.verdict.write_refused.Goals as goal

pub returns-in_err-write_refused_fields : goal.returns-in_err-write_refused_fields
returns-in_err-write_refused_fields g c = grind (arith, fields_steps)

pub returns : goal.returns
returns g c = grind (arith, fields_steps)
