use Rattle.source_texts.specs.Reach.{extension_words}
use Rattle.std.proofs.Common.{arith}
use Rattle.pickle_io.proofs.Devices.{text_steps}
use Rattle.source_texts.proofs.reach.write_extension.Goals as goal

pub returns-in_err-write_with_signed : goal.returns-in_err-write_with_signed
unfolding extension_words
returns-in_err-write_with_signed g c = grind (arith, text_steps)

pub returns : goal.returns
unfolding extension_words
returns g c = grind (arith, text_steps)
