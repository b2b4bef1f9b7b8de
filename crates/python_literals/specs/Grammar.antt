-- Python's literals, as readers: the value of a literal by its text. What they read, Python reads so. Of the literals that Python has they leave out
-- prefixes other than `b`, triple quotes, the escapes of octal digits, of names and of a newline, those that Python leaves as they are, and
-- numbers with underscores, with zeros in front, and in octal and binary digits.
-- Source: The Python Language Reference, Lexical analysis: String and Bytes literals, Integer literals, Floating-point literals. A minus is no part of a
-- number's literal there: it is read with it here. Python's limit on the digits of a decimal number is in its documentation of `int`.
use Rattle.std.specs.Prelude.{ℕ, suc, ℤ, pos, neg_ℤ, ◌+◌, ◌-◌, ◌*◌, ◌==◌, ◌&&◌, ◌||◌, nat_le, nat_lt, if◌then◌else◌, Bool, true, false, List, [], ◌∷◌, length, drop, slice_index, Option, Some, None}
use Rattle.std.specs.List.{list_any}
use Rattle.std.specs.Option.{option_map}
use Rattle.std.specs.Char.{digit_value}
use Rattle.std.specs.Str.{chars, is_utf8}
use Rattle.std.specs.Float.{binary64}
use Rattle.std.specs.Float.Ieee.{Float}
use Rattle.std.specs.Float.Parse.{parse_float, completes_number}

-- ---- between quotes

-- where a reader is: behind a whole character, behind a backslash, or before so many more hexadecimal digits of the number of a character
pub data Mode : Type 0 where
  Plain : Mode
  Escape : Mode
  Digits : (left : ℕ) (number : ℕ) → Mode

-- what one character more says: the literal ends, there is no such literal, the reader goes on, or a character of the value is read
pub data Step : Type 0 where
  End : Step
  Wrong : Step
  Goes : (mode : Mode) → Step
  Gives : (c : ℕ) → Step

-- texts have all escapes, and all characters but the ends of lines; bytes have characters of ASCII alone, and `\x` alone of those with digits
abbrev pub plain_step : Bool → ℕ → ℕ → Step
plain_step wide quote c =
    if c == quote then End
    else if c == 92 then Goes Escape
    else if c == 10 || c == 13 then Wrong
    else if wide || nat_lt c 128 then Gives c
    else Wrong

abbrev pub escape_step : Bool → ℕ → Step
escape_step wide c =
    if c == 92 || (c == 39 || c == 34) then Gives c
    else if c == 97 then Gives 7
    else if c == 98 then Gives 8
    else if c == 102 then Gives 12
    else if c == 110 then Gives 10
    else if c == 114 then Gives 13
    else if c == 116 then Gives 9
    else if c == 118 then Gives 11
    else if c == 120 then Goes (Digits 2 0)
    else if wide && c == 117 then Goes (Digits 4 0)
    else if wide && c == 85 then Goes (Digits 8 0)
    else Wrong

-- Unicode has no character above 0x10ffff
abbrev pub digits_step : ℕ → ℕ → Step
digits_step left number =
    if left == 1 then (if nat_le number 1114111 then Gives number else Wrong)
    else Goes (Digits (left - 1) number)

abbrev pub step_of : Bool → ℕ → Mode → ℕ → Step
step_of wide quote Plain c = plain_step wide quote c
step_of wide quote Escape c = escape_step wide c
step_of wide quote (Digits left number) c = if nat_lt (digit_value c) 16 then digits_step left (16 * number + digit_value c) else Wrong

abbrev pub in_front : ℕ → Option (List ℕ) → Option (List ℕ)
in_front c None = None
in_front c (Some value) = Some (c ∷ value)

-- nothing may follow the quote at the end
abbrev pub if_last : List ℕ → Option (List ℕ)
if_last [] = Some []
if_last (c ∷ rest) = None

abbrev pub by_step : Step → List ℕ → (Mode → Option (List ℕ)) → Option (List ℕ)
by_step End rest next = if_last rest
by_step Wrong rest next = None
by_step (Goes m) rest next = next m
by_step (Gives c) rest next = in_front c (next Plain)

unfoldable pub read_on : Bool → ℕ → Mode → List ℕ → Option (List ℕ)
read_on wide quote m [] = None
read_on wide quote m (c ∷ rest) = by_step (step_of wide quote m c) rest (λ n. read_on wide quote n rest)

abbrev pub is_quote : ℕ → Bool
is_quote c = c == 39 || c == 34

abbrev pub quoted_value : Bool → List ℕ → Option (List ℕ)
quoted_value wide [] = None
quoted_value wide (c ∷ rest) = if is_quote c then read_on wide c Plain rest else None

-- the characters of a text, by a literal in UTF-8
unfoldable pub reads_str : List ℕ → Option (List ℕ)
reads_str text = if is_utf8 text then quoted_value true (chars text) else None

abbrev pub prefixed_value : List ℕ → Option (List ℕ)
prefixed_value [] = None
prefixed_value (c ∷ rest) = if c == 98 then quoted_value false rest else None

-- bytes, by a literal
unfoldable pub reads_bytes : List ℕ → Option (List ℕ)
reads_bytes text = prefixed_value text

-- ---- numbers

-- the number of further digits in a base
unfoldable pub number_behind : ℕ → ℕ → List ℕ → Option ℕ
number_behind base n [] = Some n
number_behind base n (c ∷ rest) = if nat_lt (digit_value c) base then number_behind base (n * base + digit_value c) rest else None

abbrev pub has_digits : List ℕ → Bool
has_digits text = nat_lt 0 (length text)

-- a hexadecimal number behind `0x`, a decimal one without zeros in front
abbrev pub size_behind : Bool → List ℕ → Option ℕ
size_behind true text = if has_digits (drop 2 text) then number_behind 16 0 (drop 2 text) else None
size_behind false text = if has_digits text && nat_le (length text) 4300 then number_behind 10 0 text else None

abbrev pub is_hexadecimal : List ℕ → Bool
is_hexadecimal text = slice_index text 0 == 48 && slice_index text 1 == 120

abbrev pub is_padded : List ℕ → Bool
is_padded text = slice_index text 0 == 48 && nat_lt 1 (length text)

unfoldable pub reads_size : List ℕ → Option ℕ
reads_size text = if is_hexadecimal text then size_behind true text else if is_padded text then None else size_behind false text

abbrev pub has_minus : List ℕ → Bool
has_minus text = slice_index text 0 == 45

unfoldable pub reads_int : List ℕ → Option ℤ
reads_int text = if has_minus text then option_map (λ n. neg_ℤ (pos n)) (reads_size (drop 1 text)) else option_map pos (reads_size text)

-- a point or an exponent: without them it is a whole number
abbrev pub is_mark : ℕ → Bool
is_mark c = c == 46 || (c == 101 || c == 69)

abbrev pub is_float_literal : List ℕ → Bool
is_float_literal text = completes_number 0 text && list_any is_mark text

abbrev pub unsigned : List ℕ → List ℕ
unsigned text = drop (if has_minus text then 1 else 0) text

-- the double that is nearest to the number of a literal
unfoldable pub reads_float : List ℕ → Option Float
reads_float text = if is_float_literal (unsigned text) then parse_float binary64 text else None
