use Rattle.std.proofs.Common.{arith}
use Rattle.pickle_io.proofs.Devices.{text_steps}
use Rattle.pickle_calls.specs.CallsLine.{event_line}
use Rattle.pickle_calls.proofs.calls_line.write_event_line.Goals as goal

pub returns-in_err-write_right : goal.returns-in_err-write_right
unfolding event_line
returns-in_err-write_right g c = grind (arith, text_steps)

pub returns-in_err-write_all : goal.returns-in_err-write_all
unfolding event_line
returns-in_err-write_all g c = grind (arith, text_steps)

pub returns-in_err-write_event : goal.returns-in_err-write_event
unfolding event_line
returns-in_err-write_event g c = grind (arith, text_steps)

pub returns : goal.returns
unfolding event_line
returns g c = grind (arith, text_steps)
