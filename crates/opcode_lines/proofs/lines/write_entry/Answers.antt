use Rattle.std.proofs.Common.{arith}
use Rattle.json_lines.proofs.Lines.{line_steps}
use Rattle.opcode_lines.specs.EntryFields.{entry_line}
use Rattle.opcode_lines.proofs.lines.write_entry.Goals as goal

pub returns-in_err-begin_line : goal.returns-in_err-begin_line
unfolding entry_line
returns-in_err-begin_line g c = grind (arith, line_steps)

pub returns-in_err-write_fields : goal.returns-in_err-write_fields
unfolding entry_line
returns-in_err-write_fields g c = grind (arith, line_steps)

pub returns : goal.returns
unfolding entry_line
returns g c = grind (arith, line_steps)
