use Rattle.std.proofs.Common.{arith}
use Rattle.pickle_io.proofs.Devices.{text_steps}
use Rattle.source_texts.specs.Statement.{cut_text}
use Rattle.source_texts.proofs.statement.write_cut.Goals as goal

pub returns-in_err-write_all : goal.returns-in_err-write_all
unfolding cut_text
returns-in_err-write_all g c = grind (arith, text_steps)

pub returns-in_err-write_closing : goal.returns-in_err-write_closing
unfolding cut_text
returns-in_err-write_closing g c = grind (arith, text_steps)

pub returns : goal.returns
unfolding cut_text
returns g c = grind (arith, text_steps)
