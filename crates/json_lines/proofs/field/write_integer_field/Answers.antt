use Rattle.std.proofs.Common.{arith}
use Rattle.json_lines.proofs.Lines.{field_steps}
use Rattle.json_lines.proofs.field.write_integer_field.Goals as goal

pub returns-in_err-write_name : goal.returns-in_err-write_name
returns-in_err-write_name g c = grind (arith, field_steps)

pub returns : goal.returns
returns g c = grind (arith, field_steps)
