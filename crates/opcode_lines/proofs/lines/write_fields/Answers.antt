use Rattle.std.proofs.Common.{arith}
use Rattle.json_lines.proofs.Lines.{fields_steps}
use Rattle.opcode_lines.proofs.lines.write_fields.Goals as goal

pub returns-in_err-write_spelling : goal.returns-in_err-write_spelling
returns-in_err-write_spelling g c = grind (arith, fields_steps)

pub returns-in_err-write_row : goal.returns-in_err-write_row
returns-in_err-write_row g c = grind (arith, fields_steps)

pub returns : goal.returns
returns g c = grind (arith, fields_steps)
