use Rattle.std.proofs.Common.{arith}
use Rattle.json_lines.proofs.Lines.{line_steps}
use Rattle.pickle_json.specs.EndFields.{left_text}
use Rattle.pickle_json.proofs.ends.write_left_text.Goals as goal

pub returns-in_err-begin_line : goal.returns-in_err-begin_line
unfolding left_text
returns-in_err-begin_line g c = grind (arith, line_steps)

pub returns-in_err-write_left_fields : goal.returns-in_err-write_left_fields
unfolding left_text
returns-in_err-write_left_fields g c = grind (arith, line_steps)

pub returns : goal.returns
unfolding left_text
returns g c = grind (arith, line_steps)
