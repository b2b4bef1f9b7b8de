-- What stands for a character or a byte between the quotes of a literal.
-- Source: Python's `repr`: `unicode_repr` of Objects/unicodeobject.c, `PyBytes_Repr` of Objects/bytesobject.c. Which characters print is
-- `str.isprintable` of Python's documentation: those of the categories Other and Separator do not, but for the blank. The tables are those of
-- Unicode 15.1, which Python 3.13 has. What prints by them and not by those of an older Python stands for itself here, and has an escape there.
use Rattle.std.specs.Prelude.{ℕ, ◌/◌, ◌%◌, ◌==◌, ◌&&◌, not, nat_le, nat_lt, if◌then◌else◌, Bool, List, [], ◌∷◌, codes}
use Rattle.std.specs.Char.{digit_char, encode_utf8}
use lib.Utf8.{scalar}
use Rattle.ucd_category.specs.declared.GeneralCategory.{GeneralCategory}
use Rattle.ucd_category.specs.declared.GeneralCategoryGroup.TheVariants as group
use Rattle.ucd_category.specs.GeneralCategory.{general_category}
use Rattle.ucd_category.specs.GeneralCategoryGroup.{in_group}
use Rattle.ucd_age.specs.declared.Age.TheVariants as version
use Rattle.ucd_age.specs.Age.{age, age_number}
use Rattle.pickle_io.specs.Text.{◌⧺◌}

-- ---- escapes

-- the last two hexadecimal digits of a number
unfoldable pub two_digits : ℕ → List ℕ
two_digits n = digit_char (n / 16 % 16) ∷ digit_char (n % 16) ∷ []

unfoldable pub byte_escape : ℕ → List ℕ
byte_escape c = codes "\\x" ⧺ two_digits c

unfoldable pub short_escape : ℕ → List ℕ
short_escape c = codes "\\u" ⧺ two_digits (c / 256) ⧺ two_digits c

unfoldable pub long_escape : ℕ → List ℕ
long_escape c = codes "\\U" ⧺ two_digits (c / 16777216) ⧺ two_digits (c / 65536) ⧺ two_digits (c / 256) ⧺ two_digits c

-- the shortest that says it
unfoldable pub hex_escape : ℕ → List ℕ
hex_escape c = if nat_lt c 256 then byte_escape c else if nat_lt c 65536 then short_escape c else long_escape c

-- ---- characters

-- one that ASCII prints stands for itself, the quote and the backslash after a backslash; any other is escaped. A byte of a literal of bytes is
-- one of these
unfoldable pub ascii_text : ℕ → ℕ → List ℕ
ascii_text quote c =
    if c == quote then 92 ∷ quote ∷ []
    else if c == 92 then codes "\\\\"
    else if c == 9 then codes "\\t"
    else if c == 10 then codes "\\n"
    else if c == 13 then codes "\\r"
    else if nat_le 32 c && nat_le c 126 then c ∷ []
    else hex_escape c

abbrev pub is_print : GeneralCategory → Bool
is_print category = not (in_group group.Other category) && not (in_group group.Separator category)

-- it was in Unicode 15.1
abbrev pub is_known : ℕ → Bool
is_known c = nat_le (age_number (age c)) (age_number version.V15_1)

-- a character beyond ASCII that prints
unfoldable pub is_shown : ℕ → Bool
is_shown c = nat_le 128 c && (is_print (general_category c) && is_known c)

-- it stands for itself
unfoldable pub char_text : ℕ → ℕ → List ℕ
char_text quote c = if is_shown c then encode_utf8 c else ascii_text quote c

-- and so does no half of a surrogate pair
unfoldable pub sign_text : ℕ → ℕ → List ℕ
sign_text quote c = if scalar c then char_text quote c else ascii_text quote c

-- a byte that stands for itself between these quotes
abbrev pub is_plain : ℕ → ℕ → Bool
is_plain quote b = (nat_le 32 b && nat_le b 126) && (not (b == quote) && not (b == 92))
