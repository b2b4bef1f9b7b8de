use Rattle.std.proofs.Common.{arith}
use Rattle.json_lines.proofs.Lines.{field_steps}
use Rattle.calls_json.specs.ValueFields.{all_parts}
use Rattle.calls_json.proofs.value.write_all_parts.Goals as goal

pub returns-in_err-write_name : goal.returns-in_err-write_name
unfolding all_parts
returns-in_err-write_name g c = grind (arith, field_steps)

pub returns : goal.returns
unfolding all_parts
returns g c = grind (arith, field_steps)
