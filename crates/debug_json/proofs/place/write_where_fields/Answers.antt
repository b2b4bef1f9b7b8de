use Rattle.std.proofs.Common.{arith}
use Rattle.json_lines.proofs.Lines.{fields_steps}
use Rattle.debug_json.proofs.place.write_where_fields.Goals as goal

pub returns-in_err-write_cursor : goal.returns-in_err-write_cursor
returns-in_err-write_cursor g c = grind (arith, fields_steps)

pub returns-in_err-write_counts : goal.returns-in_err-write_counts
returns-in_err-write_counts g c = grind (arith, fields_steps)

pub returns-in_err-write_reached : goal.returns-in_err-write_reached
returns-in_err-write_reached g c = grind (arith, fields_steps)

pub returns : goal.returns
returns g c = grind (arith, fields_steps)
