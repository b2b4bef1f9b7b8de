use Rattle.std.proofs.Common.{arith}
use Rattle.pickle_io.proofs.Devices.{text_steps}
use Rattle.archive_script.specs.MembersText.{member_line}
use Rattle.archive_script.proofs.members.write_member.Goals as goal

pub returns-in_err-write_decimal : goal.returns-in_err-write_decimal
unfolding member_line
returns-in_err-write_decimal g c = grind (arith, text_steps)

pub returns-in_err-write_all : goal.returns-in_err-write_all
unfolding member_line
returns-in_err-write_all g c = grind (arith, text_steps)

pub returns-in_err-write_decimal-2 : goal.returns-in_err-write_decimal-2
unfolding member_line
returns-in_err-write_decimal-2 g c = grind (arith, text_steps)

pub returns-in_err-write_packed : goal.returns-in_err-write_packed
unfolding member_line
returns-in_err-write_packed g c = grind (arith, text_steps)

pub returns-in_err-write_quoted : goal.returns-in_err-write_quoted
unfolding member_line
returns-in_err-write_quoted g c = grind (arith, text_steps)

pub returns : goal.returns
unfolding member_line
returns g c = grind (arith, text_steps)
