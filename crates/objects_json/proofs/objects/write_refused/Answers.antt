use Rattle.std.proofs.Common.{arith}
use Rattle.json_lines.proofs.Lines.{line_steps}
use Rattle.objects_json.specs.Objects.{refused_line}
use Rattle.objects_json.proofs.objects.write_refused.Goals as goal

pub returns-in_err-begin_line : goal.returns-in_err-begin_line
unfolding refused_line
returns-in_err-begin_line g c = grind (arith, line_steps)

pub returns-in_err-write_item_refused : goal.returns-in_err-write_item_refused
unfolding refused_line
returns-in_err-write_item_refused g c = grind (arith, line_steps)

pub returns : goal.returns
unfolding refused_line
returns g c = grind (arith, line_steps)
