use Rattle.std.proofs.Common.{arith}
use Rattle.json_lines.proofs.Lines.{line_steps}
use Rattle.debug_json.specs.WhereFields.{where_line}
use Rattle.debug_json.proofs.place.write_where.Goals as goal

pub returns-in_err-begin_line : goal.returns-in_err-begin_line
unfolding where_line
returns-in_err-begin_line g c = grind (arith, line_steps)

pub returns-in_err-write_where_fields : goal.returns-in_err-write_where_fields
unfolding where_line
returns-in_err-write_where_fields g c = grind (arith, line_steps)

pub returns : goal.returns
unfolding where_line
returns g c = grind (arith, line_steps)
