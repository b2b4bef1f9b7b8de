-- What a reader says of the first characters of a text: how many bytes are left, and whether the value is the bytes before these.
use Rattle.std.specs.Prelude.{◌≡◌, ℕ, true, List, ◌++◌, length}
use Rattle.pickle_names.specs.declared.coding.Coding.{Coding}
use Rattle.pickle_names.specs.declared.value.Reading.{Reading}
use Rattle.pickle_names.specs.Value.{Decoded, decode}

-- what it says of what was read
pub record Says (bytes : List ℕ) (d : Decoded) (r : Reading) : Type 0 where
  pub left : r.left ≡ length d.rest
  pub good : r.good ≡ d.good
  pub plain : r.plain ≡ true → bytes ≡ d.value ++ d.rest

abbrev pub IsReading : Coding → ℕ → List ℕ → Reading → Type 0
IsReading c most bytes r = Says bytes (decode c most bytes) r
