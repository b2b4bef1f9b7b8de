use Rattle.std.proofs.Common.{arith}
use Rattle.json_lines.proofs.Lines.{fields_steps}
use Rattle.calls_json.proofs.last.write_loss_fields.Goals as goal

pub returns-in_err-write_coded_at : goal.returns-in_err-write_coded_at
returns-in_err-write_coded_at g c = grind (arith, fields_steps)

pub returns : goal.returns
returns g c = grind (arith, fields_steps)
