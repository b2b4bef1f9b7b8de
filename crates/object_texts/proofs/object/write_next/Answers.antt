use Rattle.std.proofs.Common.{arith}
use Rattle.pickle_io.proofs.Devices.{text_steps}
use Rattle.object_texts.specs.ObjectText.{next_text}
use Rattle.object_texts.proofs.object.write_next.Goals as goal

pub returns-in_err-write_all : goal.returns-in_err-write_all
unfolding next_text
returns-in_err-write_all g c = grind (arith, text_steps)

pub returns : goal.returns
unfolding next_text
returns g c = grind (arith, text_steps)
