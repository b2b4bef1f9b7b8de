use Rattle.std.proofs.Common.{arith}
use Rattle.json_lines.proofs.Lines.{line_steps}
use Rattle.objects_json.specs.ObjectFields.{object_line}
use Rattle.objects_json.proofs.object.write_object.Goals as goal

pub returns-in_err-begin_line : goal.returns-in_err-begin_line
unfolding object_line
returns-in_err-begin_line g c = grind (arith, line_steps)

pub returns-in_err-write_object_fields : goal.returns-in_err-write_object_fields
unfolding object_line
returns-in_err-write_object_fields g c = grind (arith, line_steps)

pub returns : goal.returns
unfolding object_line
returns g c = grind (arith, line_steps)
