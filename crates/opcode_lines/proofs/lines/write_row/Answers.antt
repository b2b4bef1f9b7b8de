use Rattle.std.proofs.Common.{arith}
use Rattle.json_lines.proofs.Lines.{fields_steps}
use Rattle.opcode_lines.proofs.lines.write_row.Goals as goal

pub returns-in_err-write_text_field : goal.returns-in_err-write_text_field
returns-in_err-write_text_field g c = grind (arith, fields_steps)

pub returns-in_err-write_bool_field : goal.returns-in_err-write_bool_field
returns-in_err-write_bool_field g c = grind (arith, fields_steps)

pub returns : goal.returns
returns g c = grind (arith, fields_steps)
