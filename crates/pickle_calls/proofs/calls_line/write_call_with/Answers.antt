use Rattle.std.proofs.Common.{arith}
use Rattle.pickle_io.proofs.Devices.{text_steps}
use Rattle.pickle_calls.specs.CallsLine.{call_with_text}
use Rattle.pickle_calls.proofs.calls_line.write_call_with.Goals as goal

pub returns-in_err-write_call : goal.returns-in_err-write_call
unfolding call_with_text
returns-in_err-write_call g c = grind (arith, text_steps)

pub returns-in_err-write_all : goal.returns-in_err-write_all
unfolding call_with_text
returns-in_err-write_all g c = grind (arith, text_steps)

pub returns : goal.returns
unfolding call_with_text
returns g c = grind (arith, text_steps)
