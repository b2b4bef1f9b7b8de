use Rattle.pickle_form.proofs.Words.{in_table}
use Rattle.pickle_form.proofs.name.is_word_byte.Goals as goal

pub returns : goal.returns
returns c = rw c.from.ensures (in_table c.args.byte c.ranges.byte.fits)
