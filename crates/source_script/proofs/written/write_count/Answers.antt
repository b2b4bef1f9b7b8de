use Rattle.std.proofs.Common.{arith}
use Rattle.pickle_io.proofs.Devices.{text_steps}
use Rattle.source_script.specs.SourceText.{behind_text}
use Rattle.source_script.proofs.written.write_count.Goals as goal

pub returns-in_err-write_all : goal.returns-in_err-write_all
unfolding behind_text
returns-in_err-write_all g c = grind (arith, text_steps)

pub returns-in_err-write_decimal : goal.returns-in_err-write_decimal
unfolding behind_text
returns-in_err-write_decimal g c = grind (arith, text_steps)

pub returns : goal.returns
unfolding behind_text
returns g c = grind (arith, text_steps)
