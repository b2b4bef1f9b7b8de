use Rattle.std.proofs.Common.{arith}
use Rattle.json_lines.proofs.Lines.{fields_steps}
use Rattle.debug_json.specs.StepFields.{marking_fields}
use Rattle.debug_json.proofs.step.write_marking.Goals as goal

pub returns-in_err-write_optional : goal.returns-in_err-write_optional
unfolding marking_fields
returns-in_err-write_optional g c = grind (arith, fields_steps)

pub returns : goal.returns
unfolding marking_fields
returns g c = grind (arith, fields_steps)
