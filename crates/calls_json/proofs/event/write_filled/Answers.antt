use Rattle.std.proofs.Common.{arith}
use Rattle.calls_json.proofs.Events.{event_steps}
use Rattle.calls_json.specs.EventFields.{filled_line}
use Rattle.calls_json.proofs.event.write_filled.Goals as goal

pub returns-in_err-begin_event : goal.returns-in_err-begin_event
unfolding filled_line
returns-in_err-begin_event g c = grind (arith, event_steps)

pub returns-in_err-write_count : goal.returns-in_err-write_count
unfolding filled_line
returns-in_err-write_count g c = grind (arith, event_steps)

pub returns : goal.returns
unfolding filled_line
returns g c = grind (arith, event_steps)
