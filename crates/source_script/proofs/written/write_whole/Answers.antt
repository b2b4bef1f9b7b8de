use Rattle.std.proofs.Common.{arith}
use Rattle.pickle_io.proofs.Devices.{text_steps}
use Rattle.source_script.specs.SourceText.{whole_source}
use Rattle.source_script.proofs.written.write_whole.Goals as goal

pub returns-in_err-write_all : goal.returns-in_err-write_all
unfolding whole_source
returns-in_err-write_all g c = grind (arith, text_steps)

pub returns-in_err-write_all-2 : goal.returns-in_err-write_all-2
unfolding whole_source
returns-in_err-write_all-2 g c = grind (arith, text_steps)

pub returns-in_err-write_statements : goal.returns-in_err-write_statements
unfolding whole_source
returns-in_err-write_statements g c = grind (arith, text_steps)

pub returns : goal.returns
unfolding whole_source
returns g c = grind (arith, text_steps)
