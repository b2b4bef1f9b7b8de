use Rattle.json.specs.Json.{string}
use Rattle.json_lines.proofs.Lines.{Writes-field}
use Rattle.json_lines.proofs.field.write_text_field.Goals as goal

pub returns : goal.returns
returns g c = Writes-field _ _ _ c.write_string.result c.args.name.now (string c.args.text.now) c.write_string.ensures.text c.in_ok-write_name.ensures.text
