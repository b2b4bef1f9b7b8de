-- What the items of an array are.
-- Source: numpy's `dtype.str` (doc/source/reference/arrays.dtypes.rst, arrays.interface.rst) and lib/format.py, `dtype_to_descr`.
use Rattle.std.specs.Prelude.{ℕ, ◌+◌, ◌-◌, ◌*◌, ◌==◌, ◌&&◌, ◌||◌, if◌then◌else◌, Bool, true, false, List, [], ◌∷◌, length, drop, get_or, nat_le, nat_lt, codes, Result, Ok, Err}
use Rattle.npy_form.specs.declared.reason.Reason.TheVariants as reason
use Rattle.npy_form.specs.declared.reason.Refusal.{Refusal}
use Rattle.npy_form.specs.declared.text.Number.{Number}
use Rattle.npy_form.specs.declared.item.Item.{Item}
use Rattle.npy_form.specs.Outcome.{◌>>=◌, refused}
use Rattle.npy_form.specs.Text.{is_digit, most, number_at}

abbrev pub item : ℕ → Bool → ℕ → Item
item size is_object end = record { size = size; is_object = is_object; end = end }

-- '<', '>' or '|'
abbrev pub is_order : ℕ → Bool
is_order byte = byte == 60 || (byte == 62 || byte == 124)

-- 'b', 'c', 'f', 'i', 'u', 'S' or 'V'
abbrev pub is_plain : ℕ → Bool
is_plain kind = (kind == 98 || (kind == 99 || kind == 102)) || ((kind == 105 || kind == 117) || (kind == 83 || kind == 86))

-- 'm' or 'M'
abbrev pub is_time : ℕ → Bool
is_time kind = kind == 109 || kind == 77

-- a letter or a digit
abbrev pub is_word : ℕ → Bool
is_word byte = is_digit byte || ((nat_le 65 byte && nat_le byte 90) || (nat_le 97 byte && nat_le byte 122))

-- the place behind the bracket that ends a unit
unfoldable pub unit_end : List ℕ → ℕ → Result ℕ Refusal
unit_end [] at = refused reason.Item at
unit_end (byte ∷ rest) at = if byte == 93 then Ok (at + 1) else (if is_word byte then unit_end rest (at + 1) else refused reason.Item at)

-- times have their unit in brackets, if they have one
abbrev pub behind_unit : List ℕ → ℕ → Result ℕ Refusal
behind_unit bytes at = if get_or bytes at 0 == 91 then unit_end (drop (at + 1) bytes) (at + 1) else Ok at

-- so many bytes: those of texts ('U') are told in fours
abbrev pub sized : ℕ → Number → Result Item Refusal
sized kind n = if kind == 85 then (if nat_lt most (n.value * 4) then refused reason.Number n.end else Ok (item (n.value * 4) false n.end)) else Ok (item n.value false n.end)

abbrev pub timed : List ℕ → Number → Result Item Refusal
timed bytes n = do
  end ← behind_unit bytes n.end
  Ok (item n.value false end)

unfoldable pub plain_item : List ℕ → ℕ → Result Item Refusal
plain_item bytes at =
    if is_order (get_or bytes at 0) && (is_plain (get_or bytes (at + 1) 0) || (get_or bytes (at + 1) 0 == 85 || is_time (get_or bytes (at + 1) 0)))
    then (number_at bytes (at + 2) >>= λ n. if is_time (get_or bytes (at + 1) 0) then timed bytes n else sized (get_or bytes (at + 1) 0) n)
    else refused reason.Item at

-- numbers, texts, times or bytes, by their order, kind and size; or objects, '|O'
unfoldable pub item_at : List ℕ → ℕ → Result Item Refusal
item_at bytes at =
    if nat_lt (length bytes - at) 3 then refused reason.Item at
    else (if get_or bytes at 0 == 124 && get_or bytes (at + 1) 0 == 79 then Ok (item 0 true (at + 2)) else plain_item bytes at)
