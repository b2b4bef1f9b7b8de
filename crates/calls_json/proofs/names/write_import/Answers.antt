use Rattle.std.proofs.Common.{arith}
use Rattle.json_lines.proofs.Lines.{fields_steps}
use Rattle.calls_json.specs.NameFields.{import_fields}
use Rattle.calls_json.proofs.names.write_import.Goals as goal

pub returns-in_err-write_own : goal.returns-in_err-write_own
unfolding import_fields
returns-in_err-write_own g c = grind (arith, fields_steps)

pub returns : goal.returns
unfolding import_fields
returns g c = grind (arith, fields_steps)
