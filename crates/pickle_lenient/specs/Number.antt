-- A number of any size, by its decimal digits.
use Rattle.std.specs.Prelude.{ℕ, ◌+◌, ◌*◌, ◌-◌, ◌≤◌, ◌<◌, List, [], ◌∷◌, fold, ⊤}

abbrev pub with_digit : ℕ → ℕ → ℕ
with_digit n digit = 10 * n + (digit - 48)

-- the number of these digits behind those of another number
abbrev pub value_from : ℕ → List ℕ → ℕ
value_from n digits = fold with_digit n digits

abbrev pub value_of : List ℕ → ℕ
value_of digits = value_from 0 digits

abbrev pub AreDigits : List ℕ → Type 0
AreDigits [] = ⊤
AreDigits (d ∷ ds) = (48 ≤ d) × (d ≤ 57) × AreDigits ds

-- the first is not 0
abbrev pub BeginsAbove : List ℕ → Type 0
BeginsAbove [] = ⊤
BeginsAbove (d ∷ ds) = 48 < d

pub record IsNumber (ds : List ℕ) : Type 0 where
  pub digits : AreDigits ds
  pub first : BeginsAbove ds
