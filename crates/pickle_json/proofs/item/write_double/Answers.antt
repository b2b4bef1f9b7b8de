use Rattle.std.proofs.Common.{arith}
use Rattle.pickle_json.proofs.Pieces.{roomy_steps}
use Rattle.pickle_json.proofs.item.write_double.Goals as goal

pub returns-in_err-write_eight : goal.returns-in_err-write_eight
returns-in_err-write_eight g c = grind (arith, roomy_steps)

pub returns : goal.returns
returns g c = grind (arith, roomy_steps)
