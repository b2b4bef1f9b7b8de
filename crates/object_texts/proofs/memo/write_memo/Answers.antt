use Rattle.std.proofs.Common.{arith}
use Rattle.pickle_io.proofs.Devices.{text_steps}
use Rattle.object_texts.specs.MemoText.{memo_text}
use Rattle.object_texts.proofs.memo.write_memo.Goals as goal

pub returns-in_err-write_all : goal.returns-in_err-write_all
unfolding memo_text
returns-in_err-write_all g c = grind (arith, text_steps)

pub returns-in_err-write_entries : goal.returns-in_err-write_entries
unfolding memo_text
returns-in_err-write_entries g c = grind (arith, text_steps)

pub returns : goal.returns
unfolding memo_text
returns g c = grind (arith, text_steps)
