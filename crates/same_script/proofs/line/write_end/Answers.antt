use Rattle.std.proofs.Common.{arith}
use Rattle.json_lines.proofs.Lines.{field_steps}
use Rattle.same_script.specs.SameFields.{end_field}
use Rattle.same_script.proofs.line.write_end.Goals as goal

pub returns-in_err-write_name : goal.returns-in_err-write_name
unfolding end_field
returns-in_err-write_name g c = grind (arith, field_steps)

pub returns : goal.returns
unfolding end_field
returns g c = grind (arith, field_steps)
