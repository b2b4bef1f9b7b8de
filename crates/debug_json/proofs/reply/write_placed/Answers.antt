use Rattle.std.proofs.Common.{arith}
use Rattle.json_lines.proofs.Lines.{line_steps}
use Rattle.debug_json.specs.ReplyFields.{placed_line}
use Rattle.debug_json.proofs.reply.write_placed.Goals as goal

pub returns-in_err-begin_line : goal.returns-in_err-begin_line
unfolding placed_line
returns-in_err-begin_line g c = grind (arith, line_steps)

pub returns-in_err-write_place : goal.returns-in_err-write_place
unfolding placed_line
returns-in_err-write_place g c = grind (arith, line_steps)

pub returns : goal.returns
unfolding placed_line
returns g c = grind (arith, line_steps)
