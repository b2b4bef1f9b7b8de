-- An `.npy` file: the header as numpy writes it, and then exactly the numbers that it tells, or a pickle.
-- Source: numpy's lib/format.py: `magic`, `_write_array_header`, `_wrap_header` (the keys of the literal are sorted; it is padded with blanks and a
-- newline to a multiple of 64 bytes, and of 16 before 1.14), `write_array`, `read_array`.
use Rattle.std.specs.Prelude.{◌≡◌, ℕ, ◌+◌, ◌-◌, ◌*◌, ◌%◌, ◌==◌, ◌&&◌, ◌||◌, eqb, if◌then◌else◌, Bool, true, false, List, [], ◌∷◌, length, take, drop, get_or, nat_lt, codes, Result, Ok, Err}
use Rattle.std.specs.List.{starts_with, list_all}
use Rattle.npy_form.specs.declared.reason.Reason.TheVariants as reason
use Rattle.npy_form.specs.declared.reason.Refusal.{Refusal}
use Rattle.npy_form.specs.declared.item.Item.{Item}
use Rattle.npy_form.specs.declared.text.Number.{Number}
use Rattle.npy_form.specs.declared.array.Literal.{Literal}
use Rattle.npy_form.specs.declared.array.Held.{Held}
use Rattle.npy_form.specs.declared.array.Held.TheVariants as held_as
use Rattle.npy_form.specs.Outcome.{◌>>=◌, refused}
use Rattle.npy_form.specs.Text.{word_at}
use Rattle.npy_form.specs.Item.{item, item_at}
use Rattle.npy_form.specs.Shape.{times, shape_at}

-- ---- the front

abbrev pub begins_as_array : List ℕ → Bool
begins_as_array bytes = starts_with eqb bytes (147 ∷ 78 ∷ 85 ∷ 77 ∷ 80 ∷ 89 ∷ [])

-- version 1.0, 2.0 or 3.0
abbrev pub is_version : ℕ → ℕ → Bool
is_version major minor = (major == 1 || (major == 2 || major == 3)) && minor == 0

-- the literal begins behind its length, which has two bytes in version 1.0, and else four
abbrev pub text_start : List ℕ → ℕ
text_start bytes = if get_or bytes 6 0 == 1 then 10 else 12

-- and the header ends behind so many bytes
abbrev pub header_size : List ℕ → ℕ
header_size bytes =
    if get_or bytes 6 0 == 1 then 10 + (get_or bytes 8 0 + 256 * get_or bytes 9 0)
    else 12 + (get_or bytes 8 0 + 256 * get_or bytes 9 0 + (65536 * get_or bytes 10 0 + 16777216 * get_or bytes 11 0))

-- ---- the literal

abbrev pub front_word : List ℕ
front_word = codes "{'descr': "

abbrev pub order_word : List ℕ
order_word = codes "', 'fortran_order': "

abbrev pub true_word : List ℕ
true_word = codes "True"

abbrev pub false_word : List ℕ
false_word = codes "False"

abbrev pub shape_word : List ℕ
shape_word = codes ", 'shape': ("

abbrev pub back_word : List ℕ
back_word = codes ", }"

-- whether the first axis changes fastest
abbrev pub flag_at : List ℕ → ℕ → Result ℕ Refusal
flag_at bytes at = if starts_with eqb (drop at bytes) true_word then Ok (at + 4) else word_at bytes at false_word

-- the items and how many there are, and the place behind the literal
abbrev pub literal : Item → ℕ → ℕ → Literal
literal told count end = record { item = told; count = count; end = end }

-- they are told in quotes, and fields in brackets, which are not in this form
abbrev pub quote_at : List ℕ → ℕ → Result ℕ Refusal
quote_at bytes at = if get_or bytes at 0 == 39 then Ok (at + 1) else refused reason.Item at

abbrev pub items_at : List ℕ → ℕ → Result Item Refusal
items_at bytes at = do
  front ← word_at bytes at front_word
  quote ← quote_at bytes front
  told ← item_at bytes quote
  end ← word_at bytes told.end order_word
  Ok (item told.size told.is_object end)

unfoldable pub literal_at : List ℕ → ℕ → Result Literal Refusal
literal_at bytes at = do
  told ← items_at bytes at
  flag ← flag_at bytes told.end
  shape ← word_at bytes flag shape_word
  count ← shape_at bytes shape
  back ← word_at bytes count.end back_word
  Ok (literal told count.value back)

-- ---- the file

-- the place behind the header
unfoldable pub header_end : List ℕ → Result ℕ Refusal
header_end bytes =
    if nat_lt (length bytes) 12 then refused reason.Cut (length bytes)
    else (if begins_as_array bytes && is_version (get_or bytes 6 0) (get_or bytes 7 0)
    then (if nat_lt (length bytes) (header_size bytes) then refused reason.Cut (length bytes) else (if header_size bytes % 16 == 0 then Ok (header_size bytes) else refused reason.Length 8))
    else refused reason.Version 6)

-- blanks and a newline are between the literal and that place
abbrev pub is_padded : List ℕ → ℕ → ℕ → Bool
is_padded bytes at end = nat_lt at end && (get_or bytes (end - 1) 0 == 10 && list_all (eqb 32) (take (end - 1 - at) (drop at bytes)))

abbrev pub behind_header : List ℕ → List ℕ
behind_header bytes = drop (header_size bytes) bytes

-- what is behind the header is a pickle, or so many bytes
abbrev pub content : List ℕ → Literal → ℕ → Result Held Refusal
content bytes l end =
    if l.item.is_object then Ok held_as.Pickle
    else (times l.count l.item.size end >>= λ size. if length bytes - end == size then Ok held_as.Numbers else refused reason.Size end)

-- the header, what it tells, and what is behind it, to the last byte; or the first rule that the bytes break
unfoldable pub read_array : List ℕ → Result Held Refusal
read_array bytes = do
  end ← header_end bytes
  l ← literal_at bytes (text_start bytes)
  if is_padded bytes l.end end then content bytes l end else refused reason.Text l.end
