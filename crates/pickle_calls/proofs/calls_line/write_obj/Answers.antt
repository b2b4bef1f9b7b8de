use Rattle.std.proofs.Common.{arith}
use Rattle.pickle_io.proofs.Devices.{text_steps}
use Rattle.pickle_calls.specs.CallsLine.{obj_text}
use Rattle.pickle_calls.proofs.calls_line.write_obj.Goals as goal

pub returns-in_err-write_all : goal.returns-in_err-write_all
unfolding obj_text
returns-in_err-write_all g c = grind (arith, text_steps)

pub returns-in_err-write_name : goal.returns-in_err-write_name
unfolding obj_text
returns-in_err-write_name g c = grind (arith, text_steps)

pub returns-in_err-write_all-2 : goal.returns-in_err-write_all-2
unfolding obj_text
returns-in_err-write_all-2 g c = grind (arith, text_steps)

pub returns : goal.returns
unfolding obj_text
returns g c = grind (arith, text_steps)
