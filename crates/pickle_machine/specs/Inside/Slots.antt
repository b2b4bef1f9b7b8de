-- Slots of a memo, and the map behind them.
use Rattle.std.specs.Prelude.{◌≡◌, ℕ, ◌+◌, ◌≤◌, List, [], ◌∷◌, length, Option, Some, None, ⊤}
use Rattle.std.specs.List.Sorted.{IsStrictlySortedBy}
use Rattle.std.specs.Map.{keys_of}
use Rattle.std.specs.Ordering.{nat_cmp}

-- how many slots are empty
abbrev pub holes_in : List (Option ℕ) → ℕ
holes_in [] = 0
holes_in (None ∷ slots) = holes_in slots + 1
holes_in (Some id ∷ slots) = holes_in slots

-- no key is below n
abbrev pub IsAbove : ℕ → List (ℕ × ℕ) → Type 0
IsAbove n [] = ⊤
IsAbove n (e ∷ es) = (n ≤ e.0) × IsAbove n es

-- the keys of the map ascend, and are behind those of the slots
pub record IsInOrder (slots : List (Option ℕ)) (holes : ℕ) (es : List (ℕ × ℕ)) : Type 0 where
  pub above : IsAbove (length slots) es
  pub sorted : IsStrictlySortedBy nat_cmp (keys_of es)
  pub empty : holes ≡ holes_in slots
