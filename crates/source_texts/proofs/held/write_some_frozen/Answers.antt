use Rattle.std.proofs.Common.{arith}
use Rattle.pickle_io.proofs.Devices.{text_steps}
use Rattle.source_texts.specs.Held.{some_frozen}
use Rattle.source_texts.proofs.held.write_some_frozen.Goals as goal

pub returns-in_err-write_all : goal.returns-in_err-write_all
unfolding some_frozen
returns-in_err-write_all g c = grind (arith, text_steps)

pub returns-in_err-write_parts : goal.returns-in_err-write_parts
unfolding some_frozen
returns-in_err-write_parts g c = grind (arith, text_steps)

pub returns : goal.returns
unfolding some_frozen
returns g c = grind (arith, text_steps)
