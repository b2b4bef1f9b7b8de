-- Keys and values in turn, pair by pair. These are no definitions of the source.
use Rattle.std.specs.Prelude.{ℕ, List, [], ◌∷◌, Option, Some, None}
use Rattle.source_texts.specs.declared.held.Pair.{Pair}

pub record FirstPair : Type 0 where
  pub key : ℕ
  pub value : ℕ
  pub rest : List ℕ

abbrev pub first_pair : List ℕ → Option FirstPair
first_pair [] = None
first_pair (key ∷ []) = None
first_pair (key ∷ value ∷ rest) = Some (record { key = key; value = value; rest = rest })

abbrev pub pair_view : Pair → FirstPair
pair_view p = record { key = p.key; value = p.value; rest = p.rest.now }
