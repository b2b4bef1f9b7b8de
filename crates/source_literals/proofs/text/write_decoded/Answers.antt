use Rattle.std.proofs.Common.{arith}
use Rattle.pickle_io.proofs.Devices.{text_steps}
use Rattle.source_literals.specs.Spelling.{decoded}
use Rattle.source_literals.proofs.text.write_decoded.Goals as goal

pub returns-in_err-write_bytes : goal.returns-in_err-write_bytes
unfolding decoded
returns-in_err-write_bytes g c = grind (arith, text_steps)

pub returns : goal.returns
unfolding decoded
returns g c = grind (arith, text_steps)
