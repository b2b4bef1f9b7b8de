-- What is behind the end of a list.
use Rattle.std.proofs.Common.{◌≡◌, ℕ, ◌<◌, List, [], drop, length, sym, arith}
use Rattle.std.proofs.lemmas.List.{drop_all}
use Rattle.pickle_ops.specs.declared.object.Change.{Change}

pub nothing_behind : (xs : List Change) (n : ℕ) → length xs < n → [] ≡ drop n xs
nothing_behind xs n h = sym (drop_all n xs (omega (arith, h)))
