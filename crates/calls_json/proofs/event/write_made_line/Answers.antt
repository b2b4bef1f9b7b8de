use Rattle.std.proofs.Common.{arith}
use Rattle.calls_json.proofs.Events.{event_steps}
use Rattle.calls_json.specs.EventFields.{made_line}
use Rattle.calls_json.proofs.event.write_made_line.Goals as goal

pub returns-in_err-begin_event : goal.returns-in_err-begin_event
unfolding made_line
returns-in_err-begin_event g c = grind (arith, event_steps)

pub returns-in_err-write_made_fields : goal.returns-in_err-write_made_fields
unfolding made_line
returns-in_err-write_made_fields g c = grind (arith, event_steps)

pub returns : goal.returns
unfolding made_line
returns g c = grind (arith, event_steps)
