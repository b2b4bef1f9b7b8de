use Rattle.std.proofs.Common.{arith}
use Rattle.json_lines.proofs.Lines.{field_steps}
use Rattle.calls_json.specs.ValueFields.{no_operand}
use Rattle.calls_json.proofs.value.write_no_operand.Goals as goal

pub returns-in_err-write_name : goal.returns-in_err-write_name
unfolding no_operand
returns-in_err-write_name g c = grind (arith, field_steps)

pub returns : goal.returns
unfolding no_operand
returns g c = grind (arith, field_steps)
