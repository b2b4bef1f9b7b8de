use Rattle.std.proofs.Common.{arith}
use Rattle.json_lines.proofs.Lines.{field_steps}
use Rattle.calls_json.specs.ValueFields.{one_field}
use Rattle.calls_json.proofs.value.write_one.Goals as goal

pub returns-in_err-write_name : goal.returns-in_err-write_name
unfolding one_field
returns-in_err-write_name g c = grind (arith, field_steps)

pub returns : goal.returns
unfolding one_field
returns g c = grind (arith, field_steps)
