use Rattle.std.proofs.Common.{arith}
use Rattle.json_lines.proofs.Lines.{fields_steps}
use Rattle.pickle_json.specs.ReachFields.{loader_fields}
use Rattle.pickle_json.proofs.reach.write_loader.Goals as goal

pub returns-in_err-write_text_field : goal.returns-in_err-write_text_field
unfolding loader_fields
returns-in_err-write_text_field g c = grind (arith, fields_steps)

pub returns-in_err-write_text_field-2 : goal.returns-in_err-write_text_field-2
unfolding loader_fields
returns-in_err-write_text_field-2 g c = grind (arith, fields_steps)

pub returns : goal.returns
unfolding loader_fields
returns g c = grind (arith, fields_steps)
