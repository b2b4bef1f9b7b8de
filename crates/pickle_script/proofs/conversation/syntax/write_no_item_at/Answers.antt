use Rattle.std.proofs.Common.{arith}
use Rattle.pickle_io.proofs.Devices.{text_steps}
use Rattle.pickle_script.specs.ReplyText.{no_item_line}
use Rattle.pickle_script.proofs.conversation.syntax.write_no_item_at.Goals as goal

pub returns-in_err-write_all : goal.returns-in_err-write_all
unfolding no_item_line
returns-in_err-write_all g c = grind (arith, text_steps)

pub returns-in_err-write_all-2 : goal.returns-in_err-write_all-2
unfolding no_item_line
returns-in_err-write_all-2 g c = grind (arith, text_steps)

pub returns-in_err-write_decimal : goal.returns-in_err-write_decimal
unfolding no_item_line
returns-in_err-write_decimal g c = grind (arith, text_steps)

pub returns : goal.returns
unfolding no_item_line
returns g c = grind (arith, text_steps)
