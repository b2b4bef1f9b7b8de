use Rattle.std.proofs.Common.{arith}
use Rattle.json_lines.proofs.Lines.{line_steps}
use Rattle.pickle_json.specs.ReachFields.{nothing_line}
use Rattle.pickle_json.proofs.reach.write_nothing_reached.Goals as goal

pub returns-in_err-begin_line : goal.returns-in_err-begin_line
unfolding nothing_line
returns-in_err-begin_line g c = grind (arith, line_steps)

pub returns-in_err-write_nothing_fields : goal.returns-in_err-write_nothing_fields
unfolding nothing_line
returns-in_err-write_nothing_fields g c = grind (arith, line_steps)

pub returns : goal.returns
unfolding nothing_line
returns g c = grind (arith, line_steps)
