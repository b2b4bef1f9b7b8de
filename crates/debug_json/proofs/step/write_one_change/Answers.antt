use Rattle.std.proofs.Common.{arith}
use Rattle.json_lines.proofs.Lines.{field_steps}
use Rattle.debug_json.specs.StepFields.{one_change}
use Rattle.debug_json.proofs.step.write_one_change.Goals as goal

pub returns-in_err-write_name : goal.returns-in_err-write_name
unfolding one_change
returns-in_err-write_name g c = grind (arith, field_steps)

pub returns : goal.returns
unfolding one_change
returns g c = grind (arith, field_steps)
