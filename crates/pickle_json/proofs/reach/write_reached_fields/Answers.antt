use Rattle.std.proofs.Common.{arith}
use Rattle.json_lines.proofs.Lines.{fields_steps}
use Rattle.pickle_json.proofs.reach.write_reached_fields.Goals as goal

pub returns-in_err-write_by : goal.returns-in_err-write_by
returns-in_err-write_by g c = grind (arith, fields_steps)

pub returns : goal.returns
returns g c = grind (arith, fields_steps)
