use Rattle.source_texts.specs.Held.{dict_text}
use Rattle.std.proofs.Common.{arith}
use Rattle.pickle_io.proofs.Devices.{text_steps}
use Rattle.source_texts.proofs.held.write_dict.Goals as goal

pub returns-in_err-write_all : goal.returns-in_err-write_all
unfolding dict_text
returns-in_err-write_all g c = grind (arith, text_steps)

pub returns-in_err-write_pairs_then : goal.returns-in_err-write_pairs_then
unfolding dict_text
returns-in_err-write_pairs_then g c = grind (arith, text_steps)

pub returns-in_err-write_changes : goal.returns-in_err-write_changes
unfolding dict_text
returns-in_err-write_changes g c = grind (arith, text_steps)

pub returns : goal.returns
unfolding dict_text
returns g c = grind (arith, text_steps)
