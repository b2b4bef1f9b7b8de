use Rattle.std.proofs.Common.{arith}
use Rattle.json_lines.proofs.Lines.{line_steps}
use Rattle.debug_json.specs.OwnFields.{some_heap_line}
use Rattle.debug_json.proofs.objects.write_some_objects.Goals as goal

pub returns-in_err-begin_line : goal.returns-in_err-begin_line
unfolding some_heap_line
returns-in_err-begin_line g c = grind (arith, line_steps)

pub returns-in_err-write_some_field : goal.returns-in_err-write_some_field
unfolding some_heap_line
returns-in_err-write_some_field g c = grind (arith, line_steps)

pub returns : goal.returns
unfolding some_heap_line
returns g c = grind (arith, line_steps)
