-- How a line begins that is a number: blanks and signs, and then a digit, or what a float may begin with. A byte above 127 may be a digit or a
-- blank to some loader. A byte 0 ends the line for C: of what comes before it `load_int` takes nothing at all for 0.
-- Source: Lib/pickle.py: `load_int`, `load_long`, `load_float` (`int`, `float`); Modules/_pickle.c: the same (`strtol`, `PyLong_FromString`,
-- `PyOS_string_to_double`).
use Rattle.std.specs.Prelude.{ℕ, ◌==◌, ◌&&◌, ◌||◌, nat_le, if◌then◌else◌, Bool, false, List, [], ◌∷◌}

abbrev pub is_before : ℕ → Bool
is_before byte = (nat_le 1 byte && nat_le byte 32) || (byte == 43 || byte == 45)

abbrev pub is_digit_like : ℕ → Bool
is_digit_like byte = byte == 0 || ((nat_le 48 byte && nat_le byte 57) || nat_le 128 byte)

-- . I N i n
abbrev pub is_float_like : ℕ → Bool
is_float_like byte = is_digit_like byte || (byte == 46 || (byte == 73 || (byte == 78 || (byte == 105 || byte == 110))))

unfoldable pub begins_integer : List ℕ → Bool
begins_integer [] = false
begins_integer (byte ∷ line) = if is_before byte then begins_integer line else is_digit_like byte

unfoldable pub begins_float : List ℕ → Bool
begins_float [] = false
begins_float (byte ∷ line) = if is_before byte then begins_float line else is_float_like byte
