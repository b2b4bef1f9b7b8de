use Rattle.std.proofs.Common.{arith}
use Rattle.pickle_io.proofs.Devices.{text_steps}
use Rattle.pickle_text.specs.Closing.{refused_item_line}
use Rattle.pickle_text.proofs.closing.write_refused.Goals as goal

pub returns-in_err-write_all : goal.returns-in_err-write_all
unfolding refused_item_line
returns-in_err-write_all g c = grind (arith, text_steps)

pub returns-in_err-write_item_refused : goal.returns-in_err-write_item_refused
unfolding refused_item_line
returns-in_err-write_item_refused g c = grind (arith, text_steps)

pub returns : goal.returns
unfolding refused_item_line
returns g c = grind (arith, text_steps)
