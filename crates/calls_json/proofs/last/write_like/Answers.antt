use Rattle.std.proofs.Common.{arith}
use Rattle.json_lines.proofs.Lines.{line_steps}
use Rattle.calls_json.specs.LastFields.{like_line}
use Rattle.calls_json.proofs.last.write_like.Goals as goal

pub returns-in_err-begin_line : goal.returns-in_err-begin_line
unfolding like_line
returns-in_err-begin_line g c = grind (arith, line_steps)

pub returns-in_err-write_like_fields : goal.returns-in_err-write_like_fields
unfolding like_line
returns-in_err-write_like_fields g c = grind (arith, line_steps)

pub returns : goal.returns
unfolding like_line
returns g c = grind (arith, line_steps)
