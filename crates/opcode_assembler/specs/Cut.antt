-- Where a text is cut.
use Rattle.std.specs.Prelude.{ℕ, if◌then◌else◌, Bool, List, [], ◌∷◌, Option, Some, None}

-- what stands before the first byte that passes a test; all bytes where none does
abbrev pub before : (ℕ → Bool) → List ℕ → List ℕ
before test [] = []
before test (c ∷ bytes) = if test c then [] else c ∷ before test bytes

-- what stands behind it, if there is one
abbrev pub behind : (ℕ → Bool) → List ℕ → Option (List ℕ)
behind test [] = None
behind test (c ∷ bytes) = if test c then Some bytes else behind test bytes
