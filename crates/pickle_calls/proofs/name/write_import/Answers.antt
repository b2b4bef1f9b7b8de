use Rattle.std.proofs.Common.{arith}
use Rattle.pickle_io.proofs.Devices.{text_steps}
use Rattle.pickle_calls.specs.Naming.{import_text}
use Rattle.pickle_calls.proofs.name.write_import.Goals as goal

pub returns-in_err-write_quoted : goal.returns-in_err-write_quoted
unfolding import_text
returns-in_err-write_quoted g c = grind (arith, text_steps)

pub returns-in_err-write_all : goal.returns-in_err-write_all
unfolding import_text
returns-in_err-write_all g c = grind (arith, text_steps)

pub returns : goal.returns
unfolding import_text
returns g c = grind (arith, text_steps)
