use Rattle.std.proofs.Common.{arith}
use Rattle.json_lines.proofs.Lines.{line_steps}
use Rattle.pickle_json.specs.ReachFields.{reached_line}
use Rattle.pickle_json.proofs.reach.write_reached.Goals as goal

pub returns-in_err-begin_line : goal.returns-in_err-begin_line
unfolding reached_line
returns-in_err-begin_line g c = grind (arith, line_steps)

pub returns-in_err-write_reached_fields : goal.returns-in_err-write_reached_fields
unfolding reached_line
returns-in_err-write_reached_fields g c = grind (arith, line_steps)

pub returns : goal.returns
unfolding reached_line
returns g c = grind (arith, line_steps)
