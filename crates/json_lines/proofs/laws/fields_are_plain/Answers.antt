use Rattle.json_lines.proofs.Fields.{fields_are_plain as law}
use Rattle.json_lines.proofs.laws.fields_are_plain.Goals as goal

pub returns : goal.returns
returns c = law
