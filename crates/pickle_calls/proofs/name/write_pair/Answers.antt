use Rattle.std.proofs.Common.{arith}
use Rattle.pickle_io.proofs.Devices.{text_steps}
use Rattle.pickle_calls.specs.Naming.{pair_text}
use Rattle.pickle_calls.proofs.name.write_pair.Goals as goal

pub returns-in_err-write_said : goal.returns-in_err-write_said
unfolding pair_text
returns-in_err-write_said g c = grind (arith, text_steps)

pub returns-in_err-write_all : goal.returns-in_err-write_all
unfolding pair_text
returns-in_err-write_all g c = grind (arith, text_steps)

pub returns : goal.returns
unfolding pair_text
returns g c = grind (arith, text_steps)
