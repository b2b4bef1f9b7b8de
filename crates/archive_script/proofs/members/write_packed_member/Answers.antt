use Rattle.std.proofs.Common.{arith}
use Rattle.pickle_io.proofs.Devices.{text_steps}
use Rattle.archive_script.specs.MembersText.{packed_member_line}
use Rattle.archive_script.proofs.members.write_packed_member.Goals as goal

pub returns-in_err-write_decimal : goal.returns-in_err-write_decimal
unfolding packed_member_line
returns-in_err-write_decimal g c = grind (arith, text_steps)

pub returns-in_err-write_all : goal.returns-in_err-write_all
unfolding packed_member_line
returns-in_err-write_all g c = grind (arith, text_steps)

pub returns-in_err-write_decimal-2 : goal.returns-in_err-write_decimal-2
unfolding packed_member_line
returns-in_err-write_decimal-2 g c = grind (arith, text_steps)

pub returns-in_err-write_deflated : goal.returns-in_err-write_deflated
unfolding packed_member_line
returns-in_err-write_deflated g c = grind (arith, text_steps)

pub returns-in_err-write_quoted : goal.returns-in_err-write_quoted
unfolding packed_member_line
returns-in_err-write_quoted g c = grind (arith, text_steps)

pub returns : goal.returns
unfolding packed_member_line
returns g c = grind (arith, text_steps)
