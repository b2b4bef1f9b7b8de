use Rattle.std.proofs.Common.{arith}
use Rattle.calls_json.proofs.Events.{event_steps}
use Rattle.calls_json.specs.EventFields.{state_line}
use Rattle.calls_json.proofs.event.write_state.Goals as goal

pub returns-in_err-begin_event : goal.returns-in_err-begin_event
unfolding state_line
returns-in_err-begin_event g c = grind (arith, event_steps)

pub returns-in_err-write_operand : goal.returns-in_err-write_operand
unfolding state_line
returns-in_err-write_operand g c = grind (arith, event_steps)

pub returns : goal.returns
unfolding state_line
returns g c = grind (arith, event_steps)
