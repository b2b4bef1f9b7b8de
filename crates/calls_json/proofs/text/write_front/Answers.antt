use Rattle.std.proofs.Common.{arith}
use Rattle.json_lines.proofs.Lines.{fields_steps}
use Rattle.calls_json.proofs.text.write_front.Goals as goal

pub returns-in_err-write_spelled : goal.returns-in_err-write_spelled
returns-in_err-write_spelled g c = grind (arith, fields_steps)

pub returns : goal.returns
returns g c = grind (arith, fields_steps)
