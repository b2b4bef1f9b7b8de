-- How many changes objects become.
use Rattle.std.proofs.Common.{◌≡◌, ℕ, ◌/◌, List, [], ◌∷◌, length, refl, arith}
use Rattle.std.proofs.lemmas.List.{length-map}
use Rattle.pickle_ops.specs.declared.row.Filling.{Filling}
use Rattle.pickle_ops.specs.declared.row.Filling.TheVariants as filling
use Rattle.pickle_ops.specs.Row.{change_of}
use Rattle.pickle_machine.specs.Move.{pairs_of, changes_of}
use Rattle.pickle_machine.specs.Loader.{parts_in}

pair_count : (items : List ℕ) → length (pairs_of items) ≡ length items / 2
pair_count [] = refl
pair_count (key ∷ []) = refl
pair_count (key ∷ value ∷ items) = omega (arith, pair_count items)

pub change_count : (f : Filling) (items : List ℕ) → length (changes_of f items) ≡ parts_in f (length items)
change_count filling.Append items = length-map items (change_of filling.Append)
change_count filling.SetItem items = pair_count items
change_count filling.Add items = length-map items (change_of filling.Add)
change_count filling.Build items = length-map items (change_of filling.Build)
