use Rattle.std.proofs.Common.{arith}
use Rattle.json_lines.proofs.Lines.{line_steps}
use Rattle.pickle_json.specs.ReachFields.{ways_line}
use Rattle.pickle_json.proofs.reach.write_too_many_ways.Goals as goal

pub returns-in_err-begin_line : goal.returns-in_err-begin_line
unfolding ways_line
returns-in_err-begin_line g c = grind (arith, line_steps)

pub returns-in_err-write_ways_fields : goal.returns-in_err-write_ways_fields
unfolding ways_line
returns-in_err-write_ways_fields g c = grind (arith, line_steps)

pub returns : goal.returns
unfolding ways_line
returns g c = grind (arith, line_steps)
