use Rattle.std.proofs.Common.{arith}
use Rattle.pickle_io.proofs.Devices.{text_steps}
use Rattle.object_texts.specs.MemoText.{entry_text}
use Rattle.object_texts.proofs.memo.write_entry.Goals as goal

pub returns-in_err-write_all : goal.returns-in_err-write_all
unfolding entry_text
returns-in_err-write_all g c = grind (arith, text_steps)

pub returns-in_err-write_decimal : goal.returns-in_err-write_decimal
unfolding entry_text
returns-in_err-write_decimal g c = grind (arith, text_steps)

pub returns-in_err-write_all-2 : goal.returns-in_err-write_all-2
unfolding entry_text
returns-in_err-write_all-2 g c = grind (arith, text_steps)

pub returns : goal.returns
unfolding entry_text
returns g c = grind (arith, text_steps)
