use Rattle.std.proofs.Common.{arith}
use Rattle.json_lines.proofs.Lines.{fields_steps}
use Rattle.debug_json.proofs.refused.write_syntax.Goals as goal

pub returns-in_err-write_coded : goal.returns-in_err-write_coded
returns-in_err-write_coded g c = grind (arith, fields_steps)

pub returns : goal.returns
returns g c = grind (arith, fields_steps)
