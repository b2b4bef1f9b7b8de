-- The texts of numbers, as picklers spell them.
-- Source: Lib/pickle.py, class `_Pickler`: `save_long`, `save_float`, `put`, `get` (`repr`); Modules/_pickle.c and Python 2's
-- Modules/cPickle.c: `save_int`, `save_long`, `save_float` (`%.17g`, which leaves `.0` out);
-- Python/pystrtod.c, `format_float_short`: where there is an exponent. Whether fewer digits say which number it is, is not looked at.
use Rattle.std.specs.Prelude.{ℕ, ◌+◌, ◌-◌, ◌==◌, ◌&&◌, ◌||◌, not, nat_lt, nat_le, if◌then◌else◌, Bool, true, List, length, take, drop, get_or, position, codes, Option, Some, None}
use Rattle.std.specs.List.{list_all}
use Rattle.std.specs.Str.{bytes_eq}
use Rattle.pickle_ops.specs.Shape.{is_digit}

abbrev pub starts_with : ℕ → List ℕ → Bool
starts_with byte text = nat_lt 0 (length text) && get_or text 0 0 == byte

-- digits without a zero in front
abbrev pub is_natural : List ℕ → Bool
is_natural text = nat_lt 0 (length text) && (length text == 1 || not (get_or text 0 0 == 48)) && list_all is_digit text

abbrev pub is_minus : ℕ → Bool
is_minus byte = byte == 45

-- a text without a minus in front
abbrev pub unsigned : List ℕ → List ℕ
unsigned text = if starts_with 45 text then drop 1 text else text

-- a decimal number; there is no `-0`
abbrev pub is_integer : List ℕ → Bool
is_integer text = is_natural (unsigned text) && not (bytes_eq text (codes "-0"))

-- the line of INT: a number of at most 64 bits, which has at most 19 digits, or a truth value
abbrev pub is_truth : List ℕ → Bool
is_truth text = bytes_eq text (codes "00") || bytes_eq text (codes "01")

abbrev pub is_int_line : List ℕ → Bool
is_int_line text = is_truth text || (is_integer text && nat_le (length (unsigned text)) 19)

-- the line of LONG: a number and `L`
abbrev pub is_long_line : List ℕ → Bool
is_long_line text = is_integer (take (length text - 1) text) && get_or text (length text - 1) 0 == 76

-- ---- floats

abbrev pub is_point : ℕ → Bool
is_point byte = byte == 46

abbrev pub is_letter_e : ℕ → Bool
is_letter_e byte = byte == 101

abbrev pub are_digits : List ℕ → Bool
are_digits text = nat_lt 0 (length text) && list_all is_digit text

-- a fraction: no zero at its end, but the one of `.0`
abbrev pub is_one_zero : List ℕ → Bool
is_one_zero text = bytes_eq text (codes "0")

abbrev pub ends_in_zero : List ℕ → Bool
ends_in_zero text = get_or text (length text - 1) 0 == 48

abbrev pub is_no_zero : ℕ → Bool
is_no_zero byte = not (byte == 48)

-- behind `0.`: at most three zeros come first, since from the fifth place on there is an exponent
abbrev pub is_small_to : List ℕ → Option ℕ → Bool
is_small_to text None = true
is_small_to text (Some n) = nat_le n 3 && nat_le (length text - n) 17

abbrev pub is_small : List ℕ → Bool
is_small text = is_small_to text (position is_no_zero text)

-- 17 digits say which number it is
abbrev pub fits : List ℕ → List ℕ → Bool
fits whole rest = if is_one_zero whole then is_small rest else nat_le (length whole + length rest) 17

abbrev pub is_point_between : List ℕ → List ℕ → Bool
is_point_between whole rest = is_natural whole && are_digits rest && (is_one_zero rest || not (ends_in_zero rest)) && fits whole rest

-- without an exponent; `%.17g` gives whole numbers no point
abbrev pub is_plain_to : List ℕ → Option ℕ → Bool
is_plain_to text None = is_natural text && nat_le (length text) 17
is_plain_to text (Some n) = is_point_between (take n text) (drop (n + 1) text)

abbrev pub is_plain : List ℕ → Bool
is_plain text = is_plain_to text (position is_point text)

-- before an exponent: one digit, which is no zero, and more behind the point
abbrev pub is_first_digit : List ℕ → Bool
is_first_digit text = length text == 1 && are_digits text && not (is_one_zero text)

abbrev pub is_mantissa_to : List ℕ → Option ℕ → Bool
is_mantissa_to text None = is_first_digit text
is_mantissa_to text (Some n) = is_first_digit (take n text) && are_digits (drop (n + 1) text) && not (ends_in_zero text) && nat_le (length text) 18

abbrev pub is_mantissa : List ℕ → Bool
is_mantissa text = is_mantissa_to text (position is_point text)

-- a sign, and two digits or three, of which the first is no zero
abbrev pub is_exponent : List ℕ → Bool
is_exponent text =
    (starts_with 43 text || starts_with 45 text) && nat_le 3 (length text) && nat_le (length text) 4 && (length text == 3 || not (get_or text 1 0 == 48))
    && list_all is_digit (drop 1 text)

-- an exponent of two digits is 16 or more, or below -4
abbrev pub is_far : List ℕ → Bool
is_far text =
    length text == 4
    || (if starts_with 43 text then nat_lt 49 (get_or text 1 0) || (get_or text 1 0 == 49 && nat_le 54 (get_or text 2 0))
    else nat_lt 48 (get_or text 1 0) || nat_le 53 (get_or text 2 0))

abbrev pub is_finite_to : List ℕ → Option ℕ → Bool
is_finite_to text None = is_plain text
is_finite_to text (Some n) = is_mantissa (take n text) && is_exponent (drop (n + 1) text) && is_far (drop (n + 1) text)

abbrev pub is_finite : List ℕ → Bool
is_finite text = is_finite_to text (position is_letter_e text)

-- the line of FLOAT
abbrev pub is_float_line : List ℕ → Bool
is_float_line text = bytes_eq text (codes "nan") || bytes_eq (unsigned text) (codes "inf") || is_finite (unsigned text)
