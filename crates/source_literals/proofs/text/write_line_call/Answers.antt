use Rattle.std.proofs.Common.{arith}
use Rattle.pickle_io.proofs.Devices.{text_steps}
use Rattle.source_literals.specs.Spelling.{line_call}
use Rattle.source_literals.proofs.text.write_line_call.Goals as goal

pub returns-in_err-write_all : goal.returns-in_err-write_all
unfolding line_call
returns-in_err-write_all g c = grind (arith, text_steps)

pub returns-in_err-write_bytes : goal.returns-in_err-write_bytes
unfolding line_call
returns-in_err-write_bytes g c = grind (arith, text_steps)

pub returns : goal.returns
unfolding line_call
returns g c = grind (arith, text_steps)
