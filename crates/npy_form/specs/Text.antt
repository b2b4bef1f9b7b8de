-- Words and numbers in the text of a header. Places count from the first byte of the file.
-- Source: own.
use Rattle.std.specs.Prelude.{ℕ, ◌+◌, ◌-◌, ◌*◌, ◌==◌, ◌&&◌, eqb, if◌then◌else◌, Bool, List, [], ◌∷◌, length, drop, get_or, nat_lt, nat_le, Result, Ok, Err}
use Rattle.std.specs.List.{starts_with}
use Rattle.npy_form.specs.declared.reason.Reason.TheVariants as reason
use Rattle.npy_form.specs.declared.reason.Refusal.{Refusal}
use Rattle.npy_form.specs.declared.text.Number.{Number}
use Rattle.npy_form.specs.Outcome.{refused}

-- the place behind a word that stands at a place
unfoldable pub word_at : List ℕ → ℕ → List ℕ → Result ℕ Refusal
word_at bytes at word = if starts_with eqb (drop at bytes) word then Ok (at + length word) else refused reason.Text at

abbrev pub is_digit : ℕ → Bool
is_digit byte = nat_le 48 byte && nat_le byte 57

-- no number is larger than this
abbrev pub most : ℕ
most = 72057594037927935  -- 2 ^ 56 - 1

abbrev pub number : ℕ → ℕ → Number
number value end = record { value = value; end = end }

-- the number that some digits are, from the value of those before them, and the place behind it
unfoldable pub digits : List ℕ → ℕ → ℕ → Result Number Refusal
digits [] at value = Ok (number value at)
digits (byte ∷ rest) at value =
    if is_digit byte
    then (if nat_lt most (value * 10 + (byte - 48)) then refused reason.Number at else digits rest (at + 1) (value * 10 + (byte - 48)))
    else Ok (number value at)

-- the number at a place: it has no zero in front
unfoldable pub number_at : List ℕ → ℕ → Result Number Refusal
number_at bytes at =
    if get_or bytes at 0 == 48 then Ok (number 0 (at + 1)) else (if is_digit (get_or bytes at 0) then digits (drop at bytes) at 0 else refused reason.Text at)
