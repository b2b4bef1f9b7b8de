use Rattle.std.proofs.Common.{arith}
use Rattle.json_lines.proofs.Lines.{fields_steps}
use Rattle.same_script.specs.SameFields.{ends_fields}
use Rattle.same_script.proofs.line.write_ends.Goals as goal

pub returns-in_err-write_how : goal.returns-in_err-write_how
unfolding ends_fields
returns-in_err-write_how g c = grind (arith, fields_steps)

pub returns : goal.returns
unfolding ends_fields
returns g c = grind (arith, fields_steps)
