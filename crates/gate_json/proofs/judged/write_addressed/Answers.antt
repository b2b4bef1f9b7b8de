use Rattle.std.proofs.Common.{arith}
use Rattle.json_lines.proofs.Lines.{fields_steps}
use Rattle.gate_json.proofs.judged.write_addressed.Goals as goal

pub returns-in_err-write_address : goal.returns-in_err-write_address
returns-in_err-write_address g c = grind (arith, fields_steps)

pub returns : goal.returns
returns g c = grind (arith, fields_steps)
