use Rattle.std.proofs.Common.{arith}
use Rattle.pickle_io.proofs.Devices.{text_steps}
use Rattle.pickle_calls.specs.Naming.{import_for}
use Rattle.pickle_calls.proofs.name.write_import_for.Goals as goal

pub returns-in_err-write_import : goal.returns-in_err-write_import
unfolding import_for
returns-in_err-write_import g c = grind (arith, text_steps)

pub returns-in_err-write_all : goal.returns-in_err-write_all
unfolding import_for
returns-in_err-write_all g c = grind (arith, text_steps)

pub returns : goal.returns
unfolding import_for
returns g c = grind (arith, text_steps)
