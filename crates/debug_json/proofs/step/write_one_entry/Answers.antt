use Rattle.std.proofs.Common.{arith}
use Rattle.json_lines.proofs.Lines.{field_steps}
use Rattle.debug_json.specs.StepFields.{one_entry}
use Rattle.debug_json.proofs.step.write_one_entry.Goals as goal

pub returns-in_err-write_name : goal.returns-in_err-write_name
unfolding one_entry
returns-in_err-write_name g c = grind (arith, field_steps)

pub returns : goal.returns
unfolding one_entry
returns g c = grind (arith, field_steps)
