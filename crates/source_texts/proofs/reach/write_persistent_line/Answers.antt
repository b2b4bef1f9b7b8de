use Rattle.source_texts.specs.Reach.{persistent_line}
use Rattle.std.proofs.Common.{arith}
use Rattle.pickle_io.proofs.Devices.{text_steps}
use Rattle.source_texts.proofs.reach.write_persistent_line.Goals as goal

pub returns-in_err-write_all : goal.returns-in_err-write_all
unfolding persistent_line
returns-in_err-write_all g c = grind (arith, text_steps)

pub returns-in_err-write_text : goal.returns-in_err-write_text
unfolding persistent_line
returns-in_err-write_text g c = grind (arith, text_steps)

pub returns : goal.returns
unfolding persistent_line
returns g c = grind (arith, text_steps)
