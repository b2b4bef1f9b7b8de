use Rattle.std.proofs.Common.{arith}
use Rattle.pickle_io.proofs.Devices.{text_steps}
use Rattle.pickle_text.specs.Closing.{kept_text, kept_words}
use Rattle.pickle_text.proofs.closing.write_kept_text.Goals as goal

pub returns-in_err-write_all : goal.returns-in_err-write_all
unfolding kept_text kept_words
returns-in_err-write_all g c = grind (arith, text_steps)

pub returns-in_err-write_decimal : goal.returns-in_err-write_decimal
unfolding kept_text kept_words
returns-in_err-write_decimal g c = grind (arith, text_steps)

pub returns-in_err-write_all-2 : goal.returns-in_err-write_all-2
unfolding kept_text kept_words
returns-in_err-write_all-2 g c = grind (arith, text_steps)

pub returns : goal.returns
unfolding kept_text kept_words
returns g c = grind (arith, text_steps)
