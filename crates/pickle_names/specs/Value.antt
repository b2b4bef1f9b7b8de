-- The value of a text: the characters that its bytes are read as, in UTF-8.
-- Source: `codecs`; a surrogate, which UTF-8 proper has not, has the three bytes that `surrogatepass` gives it. How much of a text is read,
-- and how a text that cannot be read is shown, is this project's own.
use Rattle.std.specs.Prelude.{ℕ, zero, suc, ◌+◌, ◌/◌, ◌%◌, nat_lt, nat_le, if◌then◌else◌, Bool, true, false, List, [], ◌∷◌, ◌++◌, length, take, drop, codes, Option, Some, None}
use Rattle.pickle_io.specs.Text.{◌⧺◌, quoted}
use Rattle.pickle_names.specs.declared.coding.Coding.{Coding}
use Rattle.pickle_names.specs.declared.coding.Piece.{Piece}
use Rattle.pickle_names.specs.declared.coding.Piece.TheVariants as piece
use Rattle.pickle_names.specs.Coding.{front_of}

-- ---- one character

-- a character in UTF-8: its number is below 0x110000
unfoldable pub utf8_of : ℕ → List ℕ
utf8_of n =
    if nat_lt n 128 then n ∷ []
    else if nat_lt n 2048 then (192 + n / 64) ∷ (128 + n % 64) ∷ []
    else if nat_lt n 65536 then (224 + n / 4096) ∷ (128 + n / 64 % 64) ∷ (128 + n % 64) ∷ []
    else (240 + n / 262144 % 8) ∷ (128 + n / 4096 % 64) ∷ (128 + n / 64 % 64) ∷ (128 + n % 64) ∷ []

-- what a piece at the front of bytes is
abbrev pub piece_text : Piece → List ℕ → List ℕ
piece_text (piece.Spelled n) bytes = take n bytes
piece_text (piece.Char n size) bytes = utf8_of n

-- how many bytes spell it
abbrev pub piece_size : Piece → ℕ
piece_size (piece.Spelled n) = n
piece_size (piece.Char n size) = size

-- ---- characters in turn

-- what was read of a text, the bytes that are left, and whether what was to be read could be
pub record Decoded : Type 0 where
  pub value : List ℕ
  pub rest : List ℕ
  pub good : Bool

-- nothing, before these bytes: all that was to be read was, or what is next cannot be
abbrev pub nothing : List ℕ → Bool → Decoded
nothing rest good = record { value = []; rest = rest; good = good }

abbrev pub after : List ℕ → Decoded → Decoded
after text d = record d { value = text ++ d.value }

abbrev pub front_size : Option Piece → ℕ
front_size None = 0
front_size (Some p) = piece_size p

abbrev pub after_front : Option Piece → List ℕ → Decoded → Decoded
after_front None bytes d = nothing bytes false
after_front (Some p) bytes d = after (piece_text p bytes) d

-- the first characters, at most so many
abbrev pub decode : Coding → ℕ → List ℕ → Decoded
decode c zero bytes = nothing bytes true
decode c (suc n) [] = nothing [] true
decode c (suc n) (b ∷ rest) = after_front (front_of c b rest) (b ∷ rest) (decode c n (drop (front_size (front_of c b rest)) (b ∷ rest)))

-- ---- a whole text

-- a character has a byte or more, so that this reads all of them
abbrev pub decode_all : Coding → List ℕ → Decoded
decode_all c bytes = decode c (length bytes) bytes

-- the value of a text, if it can be read
-- the value of a text, if it can be read, and has at most so many bytes: no name that has a row is longer than 25
abbrev pub if_short : Decoded → Option (List ℕ)
if_short d = if d.good then (if nat_le (length d.value) 32 then Some d.value else None) else None

unfoldable pub short_value : Coding → List ℕ → Option (List ℕ)
short_value c bytes = if_short (decode_all c bytes)

-- a text that cannot be read, by its bytes
unfoldable pub raw_text : List ℕ → List ℕ
raw_text bytes = codes "raw " ⧺ quoted bytes

abbrev pub value_or_raw : Decoded → List ℕ → List ℕ
value_or_raw d bytes = if d.good then quoted d.value else raw_text bytes

-- a text by its value
unfoldable pub whole_text : Coding → List ℕ → List ℕ
whole_text c bytes = value_or_raw (decode_all c bytes) bytes
