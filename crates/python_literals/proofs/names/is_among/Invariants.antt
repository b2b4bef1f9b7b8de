-- The words that are left decide.
use Rattle.std.proofs.Common.{◌≡◌, drop}
use Rattle.std.specs.List.{list_any}
use Rattle.std.specs.Str.{bytes_eq}
use Rattle.python_literals.proofs.names.is_among.Given as goal

abbrev pub invariant-loop-word : goal.invariant-loop-word
invariant-loop-word l = list_any (λ w. bytes_eq l.text w.now) (drop l.word-index l.words) ≡ list_any (λ w. bytes_eq l.text w.now) l.words
