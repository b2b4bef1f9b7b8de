use Rattle.source_texts.specs.Held.{list_text}
use Rattle.std.proofs.Common.{arith}
use Rattle.pickle_io.proofs.Devices.{text_steps}
use Rattle.source_texts.proofs.held.write_list.Goals as goal

pub returns-in_err-write_all : goal.returns-in_err-write_all
unfolding list_text
returns-in_err-write_all g c = grind (arith, text_steps)

pub returns-in_err-write_parts_then : goal.returns-in_err-write_parts_then
unfolding list_text
returns-in_err-write_parts_then g c = grind (arith, text_steps)

pub returns-in_err-write_changes : goal.returns-in_err-write_changes
unfolding list_text
returns-in_err-write_changes g c = grind (arith, text_steps)

pub returns : goal.returns
unfolding list_text
returns g c = grind (arith, text_steps)
