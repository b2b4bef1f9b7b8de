use Rattle.std.proofs.Common.{arith}
use Rattle.pickle_io.proofs.Devices.{text_steps}
use Rattle.pickle_calls.specs.CallsLine.{filled_text}
use Rattle.pickle_calls.proofs.calls_line.write_filled.Goals as goal

pub returns-in_err-write_with_number : goal.returns-in_err-write_with_number
unfolding filled_text
returns-in_err-write_with_number g c = grind (arith, text_steps)

pub returns-in_err-write_all : goal.returns-in_err-write_all
unfolding filled_text
returns-in_err-write_all g c = grind (arith, text_steps)

pub returns : goal.returns
unfolding filled_text
returns g c = grind (arith, text_steps)
