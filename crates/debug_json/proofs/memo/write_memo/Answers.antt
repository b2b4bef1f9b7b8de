use Rattle.std.proofs.Common.{arith}
use Rattle.json_lines.proofs.Lines.{line_steps}
use Rattle.debug_json.specs.ShownFields.{memo_line}
use Rattle.debug_json.proofs.memo.write_memo.Goals as goal

pub returns-in_err-begin_line : goal.returns-in_err-begin_line
unfolding memo_line
returns-in_err-begin_line g c = grind (arith, line_steps)

pub returns-in_err-write_field : goal.returns-in_err-write_field
unfolding memo_line
returns-in_err-write_field g c = grind (arith, line_steps)

pub returns : goal.returns
unfolding memo_line
returns g c = grind (arith, line_steps)
