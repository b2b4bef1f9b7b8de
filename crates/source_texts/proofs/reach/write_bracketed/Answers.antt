use Rattle.source_texts.specs.Reach.{bracketed}
use Rattle.std.proofs.Common.{arith}
use Rattle.pickle_io.proofs.Devices.{text_steps}
use Rattle.source_texts.proofs.reach.write_bracketed.Goals as goal

pub returns-in_err-write_all : goal.returns-in_err-write_all
unfolding bracketed
returns-in_err-write_all g c = grind (arith, text_steps)

pub returns-in_err-write_parts : goal.returns-in_err-write_parts
unfolding bracketed
returns-in_err-write_parts g c = grind (arith, text_steps)

pub returns : goal.returns
unfolding bracketed
returns g c = grind (arith, text_steps)
