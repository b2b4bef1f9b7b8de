use Rattle.source_texts.specs.Import.{find_end}
use Rattle.std.proofs.Common.{arith}
use Rattle.pickle_io.proofs.Devices.{text_steps}
use Rattle.source_texts.proofs.import.write_find_end.Goals as goal

pub returns-in_err-write_all : goal.returns-in_err-write_all
unfolding find_end
returns-in_err-write_all g c = grind (arith, text_steps)

pub returns-in_err-write_decimal : goal.returns-in_err-write_decimal
unfolding find_end
returns-in_err-write_decimal g c = grind (arith, text_steps)

pub returns : goal.returns
unfolding find_end
returns g c = grind (arith, text_steps)
