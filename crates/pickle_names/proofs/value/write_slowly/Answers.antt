use Rattle.std.proofs.Common.{arith}
use Rattle.pickle_io.proofs.Devices.{text_steps}
use Rattle.pickle_io.specs.Text.{quoted}
use Rattle.pickle_names.proofs.value.write_slowly.Goals as goal

pub returns-in_err-write_all : goal.returns-in_err-write_all
unfolding quoted
returns-in_err-write_all g c = grind (arith, text_steps)

pub returns-in_err-write_characters : goal.returns-in_err-write_characters
unfolding quoted
returns-in_err-write_characters g c = grind (arith, text_steps)

pub returns : goal.returns
unfolding quoted
returns g c = grind (arith, text_steps)
