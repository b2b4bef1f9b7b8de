use Rattle.std.proofs.Common.{arith}
use Rattle.pickle_io.proofs.Devices.{text_steps}
use Rattle.pickle_calls.specs.CallsLine.{state_text}
use Rattle.pickle_calls.proofs.calls_line.write_state.Goals as goal

pub returns-in_err-write_value_after : goal.returns-in_err-write_value_after
unfolding state_text
returns-in_err-write_value_after g c = grind (arith, text_steps)

pub returns-in_err-write_all : goal.returns-in_err-write_all
unfolding state_text
returns-in_err-write_all g c = grind (arith, text_steps)

pub returns : goal.returns
unfolding state_text
returns g c = grind (arith, text_steps)
