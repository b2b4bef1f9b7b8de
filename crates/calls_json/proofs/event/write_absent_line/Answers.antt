use Rattle.std.proofs.Common.{arith}
use Rattle.calls_json.proofs.Events.{bare_steps}
use Rattle.calls_json.specs.EventFields.{absent_line}
use Rattle.calls_json.proofs.event.write_absent_line.Goals as goal

pub returns-in_err-begin_event : goal.returns-in_err-begin_event
unfolding absent_line
returns-in_err-begin_event g c = grind (arith, bare_steps)

pub returns : goal.returns
unfolding absent_line
returns g c = grind (arith, bare_steps)
