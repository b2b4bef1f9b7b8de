use Rattle.std.proofs.Common.{arith}
use Rattle.json_lines.proofs.Lines.{fields_steps}
use Rattle.calls_json.specs.NameFields.{for_fields}
use Rattle.calls_json.proofs.names.write_for.Goals as goal

pub returns-in_err-write_said : goal.returns-in_err-write_said
unfolding for_fields
returns-in_err-write_said g c = grind (arith, fields_steps)

pub returns : goal.returns
unfolding for_fields
returns g c = grind (arith, fields_steps)
