use Rattle.std.proofs.Common.{arith}
use Rattle.pickle_io.proofs.Devices.{text_steps}
use Rattle.object_texts.specs.ObjectText.{object_line}
use Rattle.object_texts.proofs.object.write_object_line.Goals as goal

pub returns-in_err-write_object : goal.returns-in_err-write_object
unfolding object_line
returns-in_err-write_object g c = grind (arith, text_steps)

pub returns : goal.returns
unfolding object_line
returns g c = grind (arith, text_steps)
