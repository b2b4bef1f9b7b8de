use Rattle.std.proofs.Common.{arith}
use Rattle.pickle_io.proofs.Devices.{text_steps}
use Rattle.pickle_names.specs.Value.{raw_text}
use Rattle.pickle_names.proofs.value.write_raw.Goals as goal

pub returns-in_err-write_all : goal.returns-in_err-write_all
unfolding raw_text
returns-in_err-write_all g c = grind (arith, text_steps)

pub returns : goal.returns
unfolding raw_text
returns g c = grind (arith, text_steps)
