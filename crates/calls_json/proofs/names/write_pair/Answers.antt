use Rattle.std.proofs.Common.{arith}
use Rattle.json_lines.proofs.Lines.{fields_steps}
use Rattle.calls_json.specs.NameFields.{pair_fields}
use Rattle.calls_json.proofs.names.write_pair.Goals as goal

pub returns-in_err-write_said : goal.returns-in_err-write_said
unfolding pair_fields
returns-in_err-write_said g c = grind (arith, fields_steps)

pub returns : goal.returns
unfolding pair_fields
returns g c = grind (arith, fields_steps)
