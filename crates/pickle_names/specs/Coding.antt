-- What is at the front of a text: the first character that its bytes are read as, and how many bytes spell it. Nothing is where the
-- unpickler raises in decoding.
-- Source: Lib/pickle.py: `load_unicode`, `load_string`, `load_binunicode`, `load_global`, `load_inst`, `load_persid`; the codecs
-- `ascii`, `utf-8` and `raw_unicode_escape` and the handler `surrogatepass` of Python's documentation of `codecs`; `codecs.escape_decode`
-- (the escapes of a bytes literal); well-formed UTF-8 by table 3-7 of the Unicode standard.
use Rattle.std.specs.Prelude.{ℕ, ◌+◌, ◌-◌, ◌*◌, ◌%◌, ◌==◌, ◌&&◌, not, nat_lt, nat_le, if◌then◌else◌, Bool, true, false, List, [], ◌∷◌, length, take, Option, Some, None}
use Rattle.std.specs.List.{list_all}
use Rattle.pickle_names.specs.declared.coding.Coding.{Coding}
use Rattle.pickle_names.specs.declared.coding.Coding.TheVariants as coding
use Rattle.pickle_names.specs.declared.coding.Piece.{Piece}
use Rattle.pickle_names.specs.declared.coding.Piece.TheVariants as piece

abbrev pub within : ℕ → ℕ → ℕ → Bool
within low high b = nat_le low b && nat_le b high

-- ---- ASCII

-- a character below 128, after whatever spells it
abbrev pub ascii_char : ℕ → ℕ → Option Piece
ascii_char n size = if nat_lt n 128 then Some (piece.Char n size) else None

abbrev pub ascii_front : ℕ → Option Piece
ascii_front b = if nat_lt b 128 then Some (piece.Spelled 1) else None

-- ---- UTF-8

-- how many bytes come after the first
abbrev pub tail_count : ℕ → ℕ
tail_count b = if nat_lt b 224 then 1 else if nat_lt b 240 then 2 else 3

-- which second bytes may come after a first: none that spells what fewer bytes would, a surrogate unless these pass, or what is above
-- 0x10ffff
abbrev pub second_low : ℕ → ℕ
second_low b = if b == 224 then 160 else if b == 240 then 144 else 128

abbrev pub second_high : Bool → ℕ → ℕ
second_high pass b = if b == 237 && not pass then 159 else if b == 244 then 143 else 191

abbrev pub is_second : Bool → ℕ → ℕ → Bool
is_second pass b c = within (second_low b) (second_high pass b) c

abbrev pub is_tail : ℕ → Bool
is_tail b = within 128 191 b

abbrev pub are_tails : ℕ → List ℕ → Bool
are_tails n rest = nat_le n (length rest) && list_all is_tail (take n rest)

-- the bytes after the first are right
abbrev pub goes_with : Bool → ℕ → List ℕ → Bool
goes_with pass b [] = false
goes_with pass b (c ∷ rest) = is_second pass b c && are_tails (tail_count b - 1) rest

unfoldable pub utf8_front : Bool → ℕ → List ℕ → Option Piece
utf8_front pass b rest =
    if nat_lt b 128 then Some (piece.Spelled 1)
    else if within 194 244 b && goes_with pass b rest then Some (piece.Spelled (tail_count b + 1))
    else None

-- ---- numbers in hexadecimal

abbrev pub hex_digit : ℕ → Option ℕ
hex_digit b =
    if within 48 57 b then Some (b - 48)
    else if within 97 102 b then Some (b - 87)
    else if within 65 70 b then Some (b - 55)
    else None

abbrev pub add_hex : Option ℕ → Option ℕ → Option ℕ
add_hex (Some n) (Some digit) = Some (16 * n + digit)
add_hex (Some n) None = None
add_hex None digit = None

-- the number of digits, after those that gave one so far; nothing where one is no digit
abbrev pub hex_after : Option ℕ → List ℕ → Option ℕ
hex_after n [] = n
hex_after n (b ∷ digits) = hex_after (add_hex n (hex_digit b)) digits

-- the number of the first n bytes, if they are there and are digits
unfoldable pub hex_number : ℕ → List ℕ → Option ℕ
hex_number n bytes = if nat_le n (length bytes) then hex_after (Some 0) (take n bytes) else None

-- ---- raw_unicode_escape

-- a character by its number, spelled by this many bytes
abbrev pub numbered : ℕ → Option ℕ → Option Piece
numbered size None = None
numbered size (Some n) = if nat_le n 1114111 then Some (piece.Char n size) else None

-- after a backslash: four digits after `u`, eight after `U`; a second backslash begins nothing; before any other byte, and at the end, the
-- backslash stands for itself
unfoldable pub raw_escape : List ℕ → Option Piece
raw_escape [] = Some (piece.Spelled 1)
raw_escape (c ∷ rest) =
    if c == 117 then numbered 6 (hex_number 4 rest)
    else if c == 85 then numbered 10 (hex_number 8 rest)
    else if c == 92 then Some (piece.Spelled 2)
    else Some (piece.Spelled 1)

-- a byte that begins no escape is the character of its number
abbrev pub raw_front : ℕ → List ℕ → Option Piece
raw_front b rest = if b == 92 then raw_escape rest else if nat_lt b 128 then Some (piece.Spelled 1) else Some (piece.Char b 1)

-- ---- the escapes of a string; a line has no newline

abbrev pub is_octal : ℕ → Bool
is_octal b = within 48 55 b

-- one to three octal digits, of whose number the lowest eight bits count
abbrev pub octal_last : ℕ → ℕ → List ℕ → Option Piece
octal_last n size [] = ascii_char (n % 256) size
octal_last n size (d ∷ rest) = if is_octal d then ascii_char ((8 * n + (d - 48)) % 256) (size + 1) else ascii_char (n % 256) size

abbrev pub octal_next : ℕ → List ℕ → Option Piece
octal_next n [] = ascii_char n 2
octal_next n (d ∷ rest) = if is_octal d then octal_last (8 * n + (d - 48)) 3 rest else ascii_char n 2

abbrev pub byte_of : Option ℕ → Option Piece
byte_of None = None
byte_of (Some n) = ascii_char n 4

-- the letters that stand for a control character, and the quotes and the backslash, which stand for themselves
abbrev pub named_escape : ℕ → Option ℕ
named_escape c =
    if c == 92 then Some 92
    else if c == 39 then Some 39
    else if c == 34 then Some 34
    else if c == 98 then Some 8
    else if c == 102 then Some 12
    else if c == 116 then Some 9
    else if c == 110 then Some 10
    else if c == 114 then Some 13
    else if c == 118 then Some 11
    else if c == 97 then Some 7
    else None

-- a backslash before any other byte stands for itself
abbrev pub named_or_backslash : Option ℕ → Option Piece
named_or_backslash (Some n) = Some (piece.Char n 2)
named_or_backslash None = Some (piece.Spelled 1)

-- after a backslash: octal digits, two hexadecimal ones after `x`, or a letter. At the end there must be none
unfoldable pub string_escape : List ℕ → Option Piece
string_escape [] = None
string_escape (c ∷ rest) =
    if is_octal c then octal_next (c - 48) rest
    else if c == 120 then byte_of (hex_number 2 rest)
    else named_or_backslash (named_escape c)

abbrev pub string_front : ℕ → List ℕ → Option Piece
string_front b rest = if b == 92 then string_escape rest else ascii_front b

-- ---- all of them

-- what the byte and those after it begin with
unfoldable pub front_of : Coding → ℕ → List ℕ → Option Piece
front_of coding.Ascii b rest = ascii_front b
front_of coding.Utf8 b rest = utf8_front false b rest
front_of coding.AnyUtf8 b rest = utf8_front true b rest
front_of coding.RawEscape b rest = raw_front b rest
front_of coding.StringEscape b rest = string_front b rest

-- a byte of ASCII that begins no escape
abbrev pub is_plain : ℕ → Bool
is_plain b = nat_lt b 128 && not (b == 92)
