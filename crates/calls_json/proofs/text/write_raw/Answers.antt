use Rattle.std.proofs.Common.{arith}
use Rattle.json_lines.proofs.Lines.{fields_steps}
use Rattle.calls_json.specs.TextFields.{raw_fields}
use Rattle.calls_json.proofs.text.write_raw.Goals as goal

pub returns-in_err-write_hex : goal.returns-in_err-write_hex
unfolding raw_fields
returns-in_err-write_hex g c = grind (arith, fields_steps)

pub returns : goal.returns
unfolding raw_fields
returns g c = grind (arith, fields_steps)
