use Rattle.std.proofs.Common.{arith}
use Rattle.json_lines.proofs.Lines.{fields_steps}
use Rattle.calls_json.specs.ValueFields.{first_parts}
use Rattle.calls_json.proofs.value.write_first_parts.Goals as goal

pub returns-in_err-write_all_parts : goal.returns-in_err-write_all_parts
unfolding first_parts
returns-in_err-write_all_parts g c = grind (arith, fields_steps)

pub returns : goal.returns
unfolding first_parts
returns g c = grind (arith, fields_steps)
