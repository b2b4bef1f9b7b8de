use Rattle.std.proofs.Common.{arith}
use Rattle.pickle_io.proofs.Devices.{text_steps}
use Rattle.same_script.specs.SameText.{object_line}
use Rattle.same_script.proofs.written.write_object.Goals as goal

pub returns-in_err-write_all : goal.returns-in_err-write_all
unfolding object_line
returns-in_err-write_all g c = grind (arith, text_steps)

pub returns-in_err-write_id : goal.returns-in_err-write_id
unfolding object_line
returns-in_err-write_id g c = grind (arith, text_steps)

pub returns : goal.returns
unfolding object_line
returns g c = grind (arith, text_steps)
