use Rattle.std.proofs.Common.{arith}
use Rattle.json_lines.proofs.Lines.{fields_steps}
use Rattle.calls_json.specs.NameFields.{import_for_fields}
use Rattle.calls_json.proofs.names.write_import_for.Goals as goal

pub returns-in_err-write_import : goal.returns-in_err-write_import
unfolding import_for_fields
returns-in_err-write_import g c = grind (arith, fields_steps)

pub returns : goal.returns
unfolding import_for_fields
returns g c = grind (arith, fields_steps)
