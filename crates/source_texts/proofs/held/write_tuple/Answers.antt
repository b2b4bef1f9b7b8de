use Rattle.source_texts.specs.Held.{tuple_text}
use Rattle.std.proofs.Common.{arith}
use Rattle.pickle_io.proofs.Devices.{text_steps}
use Rattle.source_texts.proofs.held.write_tuple.Goals as goal

pub returns-in_err-write_all : goal.returns-in_err-write_all
unfolding tuple_text
returns-in_err-write_all g c = grind (arith, text_steps)

pub returns-in_err-write_parts : goal.returns-in_err-write_parts
unfolding tuple_text
returns-in_err-write_parts g c = grind (arith, text_steps)

pub returns : goal.returns
unfolding tuple_text
returns g c = grind (arith, text_steps)
