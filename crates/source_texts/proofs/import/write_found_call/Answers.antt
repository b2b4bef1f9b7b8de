use Rattle.source_texts.specs.Import.{found_call}
use Rattle.std.proofs.Common.{arith}
use Rattle.pickle_io.proofs.Devices.{text_steps}
use Rattle.source_texts.proofs.import.write_found_call.Goals as goal

pub returns-in_err-write_all : goal.returns-in_err-write_all
unfolding found_call
returns-in_err-write_all g c = grind (arith, text_steps)

pub returns-in_err-write_name_literal : goal.returns-in_err-write_name_literal
unfolding found_call
returns-in_err-write_name_literal g c = grind (arith, text_steps)

pub returns-in_err-write_all-2 : goal.returns-in_err-write_all-2
unfolding found_call
returns-in_err-write_all-2 g c = grind (arith, text_steps)

pub returns-in_err-write_name_literal-2 : goal.returns-in_err-write_name_literal-2
unfolding found_call
returns-in_err-write_name_literal-2 g c = grind (arith, text_steps)

pub returns : goal.returns
unfolding found_call
returns g c = grind (arith, text_steps)
