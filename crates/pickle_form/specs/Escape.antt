-- The lines of UNICODE and STRING, as picklers escape them.
-- Source: Lib/pickle.py, class `_Pickler`: `save_str` (`raw-unicode-escape` after its own replacements); Python 2's pickle.py and
-- cPickle.c: `save_unicode`, `save_string` (`repr`), Objects/stringobject.c: `PyString_Repr`.
use Rattle.std.specs.Prelude.{ℕ, ◌+◌, ◌-◌, ◌*◌, ◌^◌, ◌==◌, ◌&&◌, ◌||◌, not, nat_lt, nat_le, if◌then◌else◌, Bool, true, false, List, length, take, drop, get_or, fold, Option, Some, None}
use Rattle.pickle_form.specs.declared.escape.Part.{Part}
use Rattle.pickle_form.specs.declared.escape.Part.TheVariants as part
use Rattle.pickle_form.specs.declared.escape.RawText.{RawText}
use Rattle.pickle_form.specs.declared.escape.Quoted.{Quoted}

-- a hexadecimal digit: the letters are small ones
abbrev pub hex_digit : ℕ → Option ℕ
hex_digit b =
    if nat_le 48 b && nat_le b 57 then Some (b - 48)
    else if nat_le 97 b && nat_le b 102 then Some (b - 87)
    else None

-- ---- the line of UNICODE: bytes, and characters as `\uXXXX` or `\UXXXXXXXX`

-- four digits stand for a character that no byte stands for, or for one that is escaped although a byte stands for it; eight for one
-- that four cannot stand for
abbrev pub is_escaped_byte : ℕ → Bool
is_escaped_byte n = n == 0 || n == 10 || n == 13 || n == 26 || n == 92

abbrev pub may_be_spelled : Bool → ℕ → Bool
may_be_spelled wide n = if wide then nat_le 65536 n && nat_le n 1114111 else nat_le 256 n || is_escaped_byte n

abbrev pub raw_begin : RawText
raw_begin = record { part = part.Plain; left = 0; wide = false; number = 0 }

abbrev pub raw_part : Part → RawText
raw_part p = record { part = p; left = 0; wide = false; number = 0 }

-- this many digits follow
abbrev pub raw_digits : Bool → ℕ → RawText
raw_digits wide n = record { part = part.Digits; left = n; wide = wide; number = 0 }

abbrev pub raw_after_slash : ℕ → RawText
raw_after_slash b = if b == 117 then raw_digits false 4 else if b == 85 then raw_digits true 8 else raw_part part.Wrong

abbrev pub raw_numbered : RawText → ℕ → RawText
raw_numbered s n =
    if nat_lt 1 s.left then record { part = part.Digits; left = s.left - 1; wide = s.wide; number = n }
    else if may_be_spelled s.wide n then raw_begin
    else raw_part part.Wrong

-- eight digits have a number below 2^32
abbrev pub raw_with_digit : RawText → Option ℕ → RawText
raw_with_digit s None = raw_part part.Wrong
raw_with_digit s (Some d) = if nat_lt (16 * s.number + d) (2 ^ 32) then raw_numbered s (16 * s.number + d) else raw_part part.Wrong

abbrev pub raw_plain : ℕ → RawText
raw_plain b = if b == 92 then raw_part part.Slash else raw_begin

abbrev pub raw_at : Part → RawText → ℕ → RawText
raw_at part.Plain s b = raw_plain b
raw_at part.Slash s b = raw_after_slash b
raw_at part.Digits s b = raw_with_digit s (hex_digit b)
raw_at part.Wrong s b = raw_part part.Wrong

abbrev pub raw_after : RawText → ℕ → RawText
raw_after s b = raw_at s.part s b

abbrev pub ends_plain : Part → Bool
ends_plain part.Plain = true
ends_plain _ = false

abbrev pub is_raw_text : List ℕ → Bool
is_raw_text text = ends_plain (fold raw_after raw_begin text).part

-- ---- the line of STRING: what `repr` of Python 2 gives

-- its quote, what of it was read, the number of an escape, and which quotes it has inside
abbrev pub quoted_begin : ℕ → Quoted
quoted_begin quote = record { quote = quote; part = part.Plain; left = 0; number = 0; single = false; double = false }

abbrev pub at_part : Quoted → Part → Quoted
at_part s p = record s { part = p; left = 0; number = 0 }

-- a byte of the text: visible, and not the quote itself
abbrev pub with_byte : Quoted → ℕ → Quoted
with_byte s b = record s { part = part.Plain; left = 0; number = 0; single = s.single || b == 39; double = s.double || b == 34 }

abbrev pub quoted_plain : Quoted → ℕ → Quoted
quoted_plain s b =
    if b == 92 then at_part s part.Slash
    else if b == s.quote then at_part s part.Wrong
    else if nat_le 32 b && nat_le b 126 then with_byte s b
    else at_part s part.Wrong

-- after a backslash: itself, the single quote where it is the quote, a letter of a control character, or two digits behind `x`
abbrev pub quoted_after_slash : Quoted → ℕ → Quoted
quoted_after_slash s b =
    if b == 92 || b == 110 || b == 114 || b == 116 then at_part s part.Plain
    else if b == 39 && s.quote == 39 then with_byte s b
    else if b == 120 then record s { part = part.Digits; left = 2; number = 0 }
    else at_part s part.Wrong

-- only bytes that are not visible and have no letter have numbers
abbrev pub has_number : ℕ → Bool
has_number n = nat_le 127 n || (nat_lt n 32 && not (n == 9 || n == 10 || n == 13))

abbrev pub quoted_numbered : Quoted → ℕ → Quoted
quoted_numbered s n =
    if nat_lt 1 s.left then record s { part = part.Digits; left = 1; number = n }
    else if has_number n then at_part s part.Plain
    else at_part s part.Wrong

abbrev pub quoted_with_digit : Quoted → Option ℕ → Quoted
quoted_with_digit s None = at_part s part.Wrong
quoted_with_digit s (Some d) = if nat_lt (16 * s.number + d) 256 then quoted_numbered s (16 * s.number + d) else at_part s part.Wrong

abbrev pub quoted_at : Part → Quoted → ℕ → Quoted
quoted_at part.Plain s b = quoted_plain s b
quoted_at part.Slash s b = quoted_after_slash s b
quoted_at part.Digits s b = quoted_with_digit s (hex_digit b)
quoted_at part.Wrong s b = at_part s part.Wrong

abbrev pub quoted_after : Quoted → ℕ → Quoted
quoted_after s b = quoted_at s.part s b

-- double quotes only where they save escapes
abbrev pub has_right_quotes : Quoted → Bool
has_right_quotes s = if s.quote == 39 then not s.single || s.double else s.single

abbrev pub ends_quoted : Quoted → Bool
ends_quoted s = ends_plain s.part && has_right_quotes s

-- what is between the quotes of a line
abbrev pub between : List ℕ → List ℕ
between text = take (length text - 2) (drop 1 text)

abbrev pub is_repr : List ℕ → Bool
is_repr text = ends_quoted (fold quoted_after (quoted_begin (get_or text 0 0)) (between text))
