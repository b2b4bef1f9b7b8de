use Rattle.std.proofs.Common.{arith}
use Rattle.json_lines.proofs.Lines.{fields_steps}
use Rattle.calls_json.proofs.last.write_leads_fields.Goals as goal

pub returns-in_err-write_warning_fields : goal.returns-in_err-write_warning_fields
returns-in_err-write_warning_fields g c = grind (arith, fields_steps)

pub returns : goal.returns
returns g c = grind (arith, fields_steps)
