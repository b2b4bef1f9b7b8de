use Rattle.std.proofs.Common.{arith}
use Rattle.json_lines.proofs.Lines.{line_steps}
use Rattle.pickle_json.specs.EndFields.{refused_end}
use Rattle.pickle_json.proofs.ends.write_refused_end.Goals as goal

pub returns-in_err-begin_line : goal.returns-in_err-begin_line
unfolding refused_end
returns-in_err-begin_line g c = grind (arith, line_steps)

pub returns-in_err-write_refused_fields : goal.returns-in_err-write_refused_fields
unfolding refused_end
returns-in_err-write_refused_fields g c = grind (arith, line_steps)

pub returns : goal.returns
unfolding refused_end
returns g c = grind (arith, line_steps)
