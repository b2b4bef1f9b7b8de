use Rattle.std.proofs.Common.{arith}
use Rattle.json_lines.proofs.Lines.{fields_steps}
use Rattle.debug_json.proofs.refused.write_item_fields.Goals as goal

pub returns-in_err-write_refused_fields : goal.returns-in_err-write_refused_fields
returns-in_err-write_refused_fields g c = grind (arith, fields_steps)

pub returns : goal.returns
returns g c = grind (arith, fields_steps)
