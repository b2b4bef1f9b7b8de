use Rattle.std.proofs.Common.{arith}
use Rattle.calls_json.proofs.Values.{array_steps}
use Rattle.calls_json.proofs.value.write_some.Goals as goal

pub returns-in_err-write_brief : goal.returns-in_err-write_brief
returns-in_err-write_brief g c = grind (arith, array_steps)

pub returns : goal.returns
returns g c = grind (arith, array_steps)
