use Rattle.std.proofs.Common.{ℕ}
use Rattle.std.proofs.lemmas.List.{take-replicate}
use Rattle.pickle_text.proofs.blanks.push_blanks.Goals as goal

pub returns-clause-text : goal.returns-clause-text
returns-clause-text g c = rw (take-replicate {X = ℕ} c.args.count 16 32 c.requires.within) at c.push_front.ensures.text
