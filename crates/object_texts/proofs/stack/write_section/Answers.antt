use Rattle.std.proofs.Common.{arith}
use Rattle.pickle_io.proofs.Devices.{text_steps}
use Rattle.object_texts.specs.StackText.{section_text}
use Rattle.object_texts.proofs.stack.write_section.Goals as goal

pub returns-in_err-write_between : goal.returns-in_err-write_between
unfolding section_text
returns-in_err-write_between g c = grind (arith, text_steps)

pub returns : goal.returns
unfolding section_text
returns g c = grind (arith, text_steps)
