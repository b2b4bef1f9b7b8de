use Rattle.std.proofs.Common.{arith}
use Rattle.pickle_io.proofs.Devices.{text_steps}
use Rattle.source_literals.specs.Spelling.{double_call}
use Rattle.source_literals.proofs.value.write_double_call.Goals as goal

pub returns-in_err-write_all : goal.returns-in_err-write_all
unfolding double_call
returns-in_err-write_all g c = grind (arith, text_steps)

pub returns-in_err-write_bytes : goal.returns-in_err-write_bytes
unfolding double_call
returns-in_err-write_bytes g c = grind (arith, text_steps)

pub returns : goal.returns
unfolding double_call
returns g c = grind (arith, text_steps)
