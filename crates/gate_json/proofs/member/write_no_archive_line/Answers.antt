use Rattle.std.proofs.Common.{arith}
use Rattle.json_lines.proofs.Lines.{line_steps}
use Rattle.gate_json.specs.MembersFields.{no_archive_line}
use Rattle.gate_json.proofs.member.write_no_archive_line.Goals as goal

pub returns-in_err-begin_line : goal.returns-in_err-begin_line
unfolding no_archive_line
returns-in_err-begin_line g c = grind (arith, line_steps)

pub returns-in_err-write_no_archive : goal.returns-in_err-write_no_archive
unfolding no_archive_line
returns-in_err-write_no_archive g c = grind (arith, line_steps)

pub returns : goal.returns
unfolding no_archive_line
returns g c = grind (arith, line_steps)
