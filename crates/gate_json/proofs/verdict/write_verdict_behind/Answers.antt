use Rattle.std.proofs.Common.{arith}
use Rattle.json_lines.proofs.Lines.{fields_steps}
use Rattle.gate_json.proofs.verdict.write_verdict_behind.Goals as goal

pub returns-in_err-write_behind : goal.returns-in_err-write_behind
returns-in_err-write_behind g c = grind (arith, fields_steps)

pub returns : goal.returns
returns g c = grind (arith, fields_steps)
