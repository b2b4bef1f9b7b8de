use Rattle.source_texts.specs.Reach.{comment}
use Rattle.std.proofs.Common.{arith}
use Rattle.pickle_io.proofs.Devices.{text_steps}
use Rattle.source_texts.proofs.reach.write_comment.Goals as goal

pub returns-in_err-write_all : goal.returns-in_err-write_all
unfolding comment
returns-in_err-write_all g c = grind (arith, text_steps)

pub returns-in_err-write_decimal : goal.returns-in_err-write_decimal
unfolding comment
returns-in_err-write_decimal g c = grind (arith, text_steps)

pub returns : goal.returns
unfolding comment
returns g c = grind (arith, text_steps)
