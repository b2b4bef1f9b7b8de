use Rattle.std.proofs.Common.{arith}
use Rattle.pickle_io.proofs.Devices.{text_steps}
use Rattle.calls_json.specs.EventFields.{ended_with}
use Rattle.calls_json.proofs.event.end_event.Goals as goal

pub returns-in_err-write_id : goal.returns-in_err-write_id
unfolding ended_with
returns-in_err-write_id g c = grind (arith, text_steps)

pub returns-in_err-write_shown : goal.returns-in_err-write_shown
unfolding ended_with
returns-in_err-write_shown g c = grind (arith, text_steps)

pub returns : goal.returns
unfolding ended_with
returns g c = grind (arith, text_steps)
