-- The shape of an array: as Python writes a tuple of numbers.
-- Source: numpy's lib/format.py, `header_data_from_array_1_0`; and `NPY_MAXDIMS`, which is 64 in numpy 2 and 32 before.
use Rattle.std.specs.Prelude.{ℕ, zero, suc, ◌+◌, ◌*◌, ◌==◌, if◌then◌else◌, Bool, true, false, List, [], ◌∷◌, get_or, nat_lt, codes, Result, Ok, Err}
use Rattle.npy_form.specs.declared.reason.Reason.TheVariants as reason
use Rattle.npy_form.specs.declared.reason.Refusal.{Refusal}
use Rattle.npy_form.specs.declared.text.Number.{Number}
use Rattle.npy_form.specs.declared.shape.Axis.{Axis}
use Rattle.npy_form.specs.Outcome.{◌>>=◌, refused}
use Rattle.npy_form.specs.Text.{word_at, most, number, number_at}

-- how many items there are of so many axes, one more of which has a length
abbrev pub times : ℕ → ℕ → ℕ → Result ℕ Refusal
times count n at = if nat_lt most (count * n) then refused reason.Number at else Ok (count * n)

abbrev pub axis : ℕ → ℕ → Bool → Axis
axis count end last = record { count = count; end = end; last = last }

-- behind the length of an axis the shape ends, or a comma stands
abbrev pub ended : List ℕ → ℕ → ℕ → Result Axis Refusal
ended bytes at count = if get_or bytes at 0 == 41 then Ok (axis count (at + 1) true) else (word_at bytes at (44 ∷ []) >>= λ end. Ok (axis count end false))

-- an axis behind others: a blank, and its length
unfoldable pub next_axis : List ℕ → ℕ → ℕ → Result Axis Refusal
next_axis bytes at count = do
  start ← word_at bytes at (32 ∷ [])
  n ← number_at bytes start
  all ← times count n.value n.end
  ended bytes n.end all

-- and so on, up to the last
unfoldable pub axes_from : ℕ → List ℕ → ℕ → ℕ → Result Number Refusal
axes_from zero bytes at count = refused reason.Axes at
axes_from (suc k) bytes at count = do
  a ← next_axis bytes at count
  if a.last then Ok (number a.count a.end) else axes_from k bytes a.end a.count

-- the first axis has a comma behind it, also where it is the only one
unfoldable pub first_axis : List ℕ → ℕ → Result Axis Refusal
first_axis bytes at = do
  n ← number_at bytes at
  end ← word_at bytes n.end (44 ∷ [])
  if get_or bytes end 0 == 41 then Ok (axis n.value (end + 1) true) else Ok (axis n.value end false)

-- how many items there are, and the place behind the shape: the product of the lengths, and one item where there is no axis
unfoldable pub shape_at : List ℕ → ℕ → Result Number Refusal
shape_at bytes at =
    if get_or bytes at 0 == 41 then Ok (number 1 (at + 1))
    else (first_axis bytes at >>= λ a. if a.last then Ok (number a.count a.end) else axes_from 63 bytes a.end a.count)
