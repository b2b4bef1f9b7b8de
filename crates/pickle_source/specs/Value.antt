-- Plain values, which the source has as literals.
-- Source: the Python reference, "Integer literals" and "Floating point literals"; Modules/_pickle.c (`load_int`, `load_long`, `load_float`), which
-- reads as the same numbers what is spelled here. A line that is spelled otherwise is left to the loader: the source asks it for the value.
use Rattle.std.specs.Prelude.{ℕ, ◌==◌, ◌&&◌, not, nat_le, nat_lt, if◌then◌else◌, Bool, true, false, List, length}
use Rattle.std.specs.List.{fold}
use Rattle.pickle_ops.specs.declared.kind.Kind.{Kind}
use Rattle.pickle_ops.specs.declared.kind.Kind.TheVariants as kind
use Rattle.pickle_names.specs.declared.coding.Coding.TheVariants as coding
use Rattle.pickle_names.specs.Value.{decode_all}
use Rattle.pickle_calls.specs.Naming.{inner}
use Rattle.pickle_source.specs.declared.value.Numeral.{Numeral}
use Rattle.pickle_source.specs.declared.value.Numeral.TheVariants as numeral

-- ---- decimal numbers

-- after a digit more, which is 0 or another
abbrev pub after_digit : Numeral → Bool → Numeral
after_digit numeral.Start zero = if zero then numeral.Zero else numeral.Digits
after_digit numeral.Sign zero = if zero then numeral.Minus else numeral.Digits
after_digit numeral.Digits zero = numeral.Digits
after_digit numeral.Point zero = numeral.Fraction
after_digit numeral.Fraction zero = numeral.Fraction
after_digit numeral.Letter zero = numeral.Power
after_digit numeral.Exponent zero = numeral.Power
after_digit numeral.Power zero = numeral.Powers
after_digit _ zero = numeral.Bad

abbrev pub after_minus : Numeral → Numeral
after_minus numeral.Start = numeral.Sign
after_minus numeral.Letter = numeral.Exponent
after_minus _ = numeral.Bad

abbrev pub after_plus : Numeral → Numeral
after_plus numeral.Letter = numeral.Exponent
after_plus _ = numeral.Bad

abbrev pub after_point : Numeral → Numeral
after_point numeral.Zero = numeral.Point
after_point numeral.Minus = numeral.Point
after_point numeral.Digits = numeral.Point
after_point _ = numeral.Bad

abbrev pub after_e : Numeral → Numeral
after_e numeral.Zero = numeral.Letter
after_e numeral.Minus = numeral.Letter
after_e numeral.Digits = numeral.Letter
after_e numeral.Fraction = numeral.Letter
after_e _ = numeral.Bad

abbrev pub after_l : Numeral → Numeral
after_l numeral.Zero = numeral.Long
after_l numeral.Minus = numeral.Long
after_l numeral.Digits = numeral.Long
after_l _ = numeral.Bad

-- after a byte more
abbrev pub after_byte : Numeral → ℕ → Numeral
after_byte read byte =
    if nat_le 48 byte && nat_le byte 57 then after_digit read (byte == 48)
    else if byte == 45 then after_minus read
    else if byte == 43 then after_plus read
    else if byte == 46 then after_point read
    else if byte == 101 then after_e read
    else if byte == 76 then after_l read
    else numeral.Bad

-- as what a line is read
abbrev pub numeral_of : List ℕ → Numeral
numeral_of line = fold after_byte numeral.Start line

abbrev pub is_whole_end : Numeral → Bool
is_whole_end numeral.Zero = true
is_whole_end numeral.Digits = true
is_whole_end _ = false

abbrev pub is_long_end : Numeral → Bool
is_long_end numeral.Zero = true
is_long_end numeral.Minus = true
is_long_end numeral.Digits = true
is_long_end numeral.Long = true
is_long_end _ = false

abbrev pub is_float_end : Numeral → Bool
is_float_end numeral.Fraction = true
is_float_end numeral.Power = true
is_float_end numeral.Powers = true
is_float_end _ = false

-- a decimal number that Python reads in its source: no more than 4,300 digits. `-0` is none: INT makes False of it
abbrev pub is_whole : List ℕ → Bool
is_whole line = nat_le (length line) 4300 && is_whole_end (numeral_of line)

abbrev pub is_long : List ℕ → Bool
is_long line = nat_le (length line) 4300 && is_long_end (numeral_of line)

-- one that is no infinity: it has at most 40 digits, and two of an exponent
abbrev pub is_float : List ℕ → Bool
is_float line = nat_le (length line) 40 && is_float_end (numeral_of line)

-- ---- long values

-- more bytes than these are written once
abbrev pub most_short : ℕ
most_short = 80

abbrev pub is_over : List ℕ → Bool
is_over bytes = nat_lt most_short (length bytes)

-- a value of many bytes: where it is used more than once, it has a name
abbrev pub is_long_value : Kind → Bool
is_long_value (kind.Long q) = is_over q
is_long_value (kind.Bytes q) = is_over q
is_long_value (kind.IntLine q) = is_over q
is_long_value (kind.LongLine q) = is_over q
is_long_value (kind.LegacyString q) = is_over q
is_long_value (kind.LegacyLine q) = is_over q
is_long_value (kind.Text q) = is_over q
is_long_value (kind.TextLine q) = is_over q
is_long_value _ = false

-- ---- kinds

-- it holds no other object, nothing can be done to it, and a loader reads its bytes
abbrev pub is_value : Kind → Bool
is_value kind.None = true
is_value kind.True = true
is_value kind.False = true
is_value (kind.Int n) = true
is_value (kind.Long q) = true
is_value (kind.Float q) = true
is_value (kind.Bytes q) = true
is_value (kind.IntLine q) = is_whole q
is_value (kind.LongLine q) = is_long q
is_value (kind.FloatLine q) = is_float q
is_value (kind.LegacyString q) = (decode_all coding.Ascii q).good
is_value (kind.LegacyLine q) = (decode_all coding.StringEscape (inner q)).good
is_value (kind.Text q) = (decode_all coding.AnyUtf8 q).good
is_value (kind.TextLine q) = (decode_all coding.RawEscape q).good
is_value _ = false

-- it stands where it is used, however often that is
abbrev pub is_short_value : Kind → Bool
is_short_value k = is_value k && not (is_long_value k)
