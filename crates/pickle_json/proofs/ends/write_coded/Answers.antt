use Rattle.std.proofs.Common.{arith}
use Rattle.json_lines.proofs.Lines.{fields_steps}
use Rattle.pickle_json.specs.EndFields.{coded_fields}
use Rattle.pickle_json.proofs.ends.write_coded.Goals as goal

pub returns-in_err-write_text_field : goal.returns-in_err-write_text_field
unfolding coded_fields
returns-in_err-write_text_field g c = grind (arith, fields_steps)

pub returns : goal.returns
unfolding coded_fields
returns g c = grind (arith, fields_steps)
