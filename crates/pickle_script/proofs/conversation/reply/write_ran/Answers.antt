use Rattle.std.proofs.Common.{arith}
use Rattle.pickle_io.proofs.Devices.{text_steps}
use Rattle.pickle_script.specs.ReplyText.{ran_text}
use Rattle.pickle_script.proofs.conversation.reply.write_ran.Goals as goal

pub returns-in_err-write_all : goal.returns-in_err-write_all
unfolding ran_text
returns-in_err-write_all g c = grind (arith, text_steps)

pub returns-in_err-write_decimal : goal.returns-in_err-write_decimal
unfolding ran_text
returns-in_err-write_decimal g c = grind (arith, text_steps)

pub returns-in_err-write_why : goal.returns-in_err-write_why
unfolding ran_text
returns-in_err-write_why g c = grind (arith, text_steps)

pub returns : goal.returns
unfolding ran_text
returns g c = grind (arith, text_steps)
