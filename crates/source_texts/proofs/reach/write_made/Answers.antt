use Rattle.source_texts.specs.Reach.{made_text}
use Rattle.std.proofs.Common.{arith}
use Rattle.pickle_io.proofs.Devices.{text_steps}
use Rattle.source_texts.proofs.reach.write_made.Goals as goal

pub returns-in_err-write_made_words : goal.returns-in_err-write_made_words
unfolding made_text
returns-in_err-write_made_words g c = grind (arith, text_steps)

pub returns : goal.returns
unfolding made_text
returns g c = grind (arith, text_steps)
