use Rattle.std.proofs.Common.{ℕ}
use Rattle.std.proofs.lemmas.List.{take-replicate}
use Rattle.pickle_text.proofs.blanks.push_block.Goals as goal

pub returns : goal.returns
returns g c = rw (take-replicate {X = ℕ} c.args.count 208 32 c.requires.within) at c.push_front.ensures.text
