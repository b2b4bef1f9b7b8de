-- How the writer of a listing keeps the highest protocol. This is no definition of the listing.
use Rattle.std.specs.Prelude.{ℕ, zero, suc, Option, None, Some}

-- the number below this one, if there is one
abbrev pub below : ℕ → Option ℕ
below zero = None
below (suc n) = Some n
