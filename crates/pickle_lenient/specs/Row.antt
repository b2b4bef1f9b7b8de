-- The row as which an operation moves, which of GET and PUT has a number of any size.
-- Source: own.
use Rattle.std.specs.Prelude.{◌≡◌, ℕ, ◌^◌, ◌≤◌, nat_le, Bool, false}
use Rattle.pickle_ops.specs.declared.row.Row.{Row}
use Rattle.pickle_ops.specs.declared.row.Row.TheVariants as row
use Rattle.pickle_lenient.specs.declared.row.RowKind.{RowKind}
use Rattle.pickle_lenient.specs.declared.row.RowKind.TheVariants as kind

-- ---- rows

-- GET or PUT of a number of more than 64 bits
abbrev pub is_far : Row → Bool
is_far (row.Get key) = nat_le (2 ^ 64) key
is_far (row.Put key) = nat_le (2 ^ 64) key
is_far _ = false

-- ---- as the functions have them

abbrev pub row_in : RowKind → Row
row_in (kind.Near r) = r
row_in (kind.FarGet n) = row.Get n
row_in (kind.FarPut n) = row.Put n

-- what is said to be far is so, and nothing else
abbrev pub IsRightKind : RowKind → Type 0
IsRightKind (kind.Near r) = is_far r ≡ false
IsRightKind (kind.FarGet n) = 2 ^ 64 ≤ n
IsRightKind (kind.FarPut n) = 2 ^ 64 ≤ n
