use Rattle.std.proofs.Common.{arith}
use Rattle.pickle_io.proofs.Devices.{text_steps}
use Rattle.archive_script.specs.MembersText.{deflated_text}
use Rattle.archive_script.proofs.members.write_deflated.Goals as goal

pub returns-in_err-write_all : goal.returns-in_err-write_all
unfolding deflated_text
returns-in_err-write_all g c = grind (arith, text_steps)

pub returns-in_err-write_decimal : goal.returns-in_err-write_decimal
unfolding deflated_text
returns-in_err-write_decimal g c = grind (arith, text_steps)

pub returns : goal.returns
unfolding deflated_text
returns g c = grind (arith, text_steps)
