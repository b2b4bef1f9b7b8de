use Rattle.std.proofs.Common.{arith}
use Rattle.json_lines.proofs.Lines.{line_steps}
use Rattle.objects_json.specs.Objects.{stopped_line}
use Rattle.objects_json.proofs.objects.write_stopped.Goals as goal

pub returns-in_err-begin_line : goal.returns-in_err-begin_line
unfolding stopped_line
returns-in_err-begin_line g c = grind (arith, line_steps)

pub returns-in_err-write_how : goal.returns-in_err-write_how
unfolding stopped_line
returns-in_err-write_how g c = grind (arith, line_steps)

pub returns : goal.returns
unfolding stopped_line
returns g c = grind (arith, line_steps)
