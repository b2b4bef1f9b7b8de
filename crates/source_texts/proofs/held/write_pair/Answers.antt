use Rattle.source_texts.specs.Held.{pair_text}
use Rattle.std.proofs.Common.{arith}
use Rattle.pickle_io.proofs.Devices.{text_steps}
use Rattle.source_texts.proofs.held.write_pair.Goals as goal

pub returns-in_err-say : goal.returns-in_err-say
unfolding pair_text
returns-in_err-say g c = grind (arith, text_steps)

pub returns-in_err-write_all : goal.returns-in_err-write_all
unfolding pair_text
returns-in_err-write_all g c = grind (arith, text_steps)

pub returns : goal.returns
unfolding pair_text
returns g c = grind (arith, text_steps)
