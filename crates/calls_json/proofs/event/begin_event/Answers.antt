use Rattle.std.proofs.Common.{arith}
use Rattle.pickle_io.proofs.Devices.{text_steps}
use Rattle.calls_json.specs.EventFields.{begun_at}
use Rattle.calls_json.proofs.event.begin_event.Goals as goal

pub returns-in_err-begin_line : goal.returns-in_err-begin_line
unfolding begun_at
returns-in_err-begin_line g c = grind (arith, text_steps)

pub returns : goal.returns
unfolding begun_at
returns g c = grind (arith, text_steps)
