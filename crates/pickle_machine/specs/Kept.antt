-- The entries of a memo that has slots for its first keys.
use Rattle.std.specs.Prelude.{ℕ, ◌+◌, ◌<◌, List, [], ◌∷◌, Option, Some, None, ⊤}

-- the entries of the slots of the keys k, k + 1, .., and then those of a map
abbrev pub kept : ℕ → List (Option ℕ) → List (ℕ × ℕ) → List (ℕ × ℕ)
kept k [] es = es
kept k (None ∷ slots) es = kept (k + 1) slots es
kept k (Some id ∷ slots) es = (k, id) ∷ kept (k + 1) slots es

-- each key is below n
abbrev pub AreBelow : ℕ → List (ℕ × ℕ) → Type 0
AreBelow n [] = ⊤
AreBelow n (e ∷ es) = (e.0 < n) × AreBelow n es
