use Rattle.source_texts.specs.Import.{from_text}
use Rattle.std.proofs.Common.{arith}
use Rattle.pickle_io.proofs.Devices.{text_steps}
use Rattle.source_texts.proofs.import.write_from.Goals as goal

pub returns-in_err-write_all : goal.returns-in_err-write_all
unfolding from_text
returns-in_err-write_all g c = grind (arith, text_steps)

pub returns-in_err-write_all-2 : goal.returns-in_err-write_all-2
unfolding from_text
returns-in_err-write_all-2 g c = grind (arith, text_steps)

pub returns-in_err-write_all-3 : goal.returns-in_err-write_all-3
unfolding from_text
returns-in_err-write_all-3 g c = grind (arith, text_steps)

pub returns-in_err-write_all-4 : goal.returns-in_err-write_all-4
unfolding from_text
returns-in_err-write_all-4 g c = grind (arith, text_steps)

pub returns : goal.returns
unfolding from_text
returns g c = grind (arith, text_steps)
