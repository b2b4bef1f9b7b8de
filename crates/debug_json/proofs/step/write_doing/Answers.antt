use Rattle.std.proofs.Common.{arith}
use Rattle.json_lines.proofs.Lines.{fields_steps}
use Rattle.debug_json.proofs.step.write_doing.Goals as goal

pub returns-in_err-write_objects : goal.returns-in_err-write_objects
returns-in_err-write_objects g c = grind (arith, fields_steps)

pub returns-in_err-write_marking : goal.returns-in_err-write_marking
returns-in_err-write_marking g c = grind (arith, fields_steps)

pub returns-in_err-write_changed : goal.returns-in_err-write_changed
returns-in_err-write_changed g c = grind (arith, fields_steps)

pub returns : goal.returns
returns g c = grind (arith, fields_steps)
