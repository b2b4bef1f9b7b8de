use Rattle.std.proofs.Common.{arith}
use Rattle.pickle_io.proofs.Devices.{text_steps}
use Rattle.object_texts.specs.ObjectText.{object_text}
use Rattle.object_texts.proofs.object.write_object.Goals as goal

pub returns-in_err-write_id : goal.returns-in_err-write_id
unfolding object_text
returns-in_err-write_id g c = grind (arith, text_steps)

pub returns-in_err-write_all : goal.returns-in_err-write_all
unfolding object_text
returns-in_err-write_all g c = grind (arith, text_steps)

pub returns-in_err-write_kind : goal.returns-in_err-write_kind
unfolding object_text
returns-in_err-write_kind g c = grind (arith, text_steps)

pub returns-in_err-write_parts : goal.returns-in_err-write_parts
unfolding object_text
returns-in_err-write_parts g c = grind (arith, text_steps)

pub returns : goal.returns
unfolding object_text
returns g c = grind (arith, text_steps)
