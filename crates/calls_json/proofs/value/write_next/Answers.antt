use Rattle.std.proofs.Common.{arith}
use Rattle.pickle_io.proofs.Devices.{text_steps}
use Rattle.calls_json.specs.ValueFields.{next_brief}
use Rattle.calls_json.proofs.value.write_next.Goals as goal

pub returns-in_err-write_all : goal.returns-in_err-write_all
unfolding next_brief
returns-in_err-write_all g c = grind (arith, text_steps)

pub returns : goal.returns
unfolding next_brief
returns g c = grind (arith, text_steps)
