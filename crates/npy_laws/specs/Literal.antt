-- The text of a header as Python reads it: a dictionary of texts, truth values and tuples of numbers.
-- Source: Lib/ast.py, `literal_eval`, and Python's reference on lexical analysis and on displays of dictionaries. Blanks may stand between tokens,
-- texts stand in quotes of either kind, a comma may stand behind the last item, and the last value of a key counts. Literals with anything
-- else in them (escapes, numbers with zeros in front, other values) are wrong here. Python reads some of these.
use Rattle.std.specs.Prelude.{ℕ, ◌+◌, ◌-◌, ◌*◌, ◌==◌, ◌&&◌, ◌||◌, not, nat_le, nat_lt, if◌then◌else◌, Bool, List, [], ◌∷◌, ◌++◌, length, codes, Option, Some, None}
use Rattle.std.specs.List.{fold}
use Rattle.std.specs.Str.{bytes_eq}
use Rattle.npy_form.specs.Text.{is_digit}
use Rattle.npy_form.specs.Npy.{true_word, false_word}

-- ---- the dictionary

pub data Token : Type 0 where
  Sign : (byte : ℕ) → Token
  Text : (bytes : List ℕ) → Token
  Number : (value : ℕ) → Token
  Word : (bytes : List ℕ) → Token

-- what it has told so far
pub record Told : Type 0 where
  pub descr : Option (List ℕ)
  pub fortran_order : Option Bool
  pub shape : Option (List ℕ)

-- what stands next
pub data Place : Type 0 where
  Start : Place  -- the dictionary
  Key : Place  -- a key, or the end of the dictionary
  Colon : (key : List ℕ) → Place
  Value : (key : List ℕ) → Place
  Axis : (axes : List ℕ) → Place  -- a number in a tuple, or its end
  Comma : (axes : List ℕ) → Place  -- a comma behind a number in a tuple, or its end
  Next : Place  -- a comma behind a value, or the end of the dictionary
  End : Place
  Wrong : Place

pub record Parse : Type 0 where
  pub place : Place
  pub told : Told

abbrev pub at : Place → Told → Parse
at place told = record { place = place; told = told }

-- where a token leads
abbrev pub behind_token : Place → Token → Told → Parse
behind_token Start (Sign c) t = at (if c == 123 then Key else Wrong) t
behind_token Key (Text k) t = at (Colon k) t
behind_token Key (Sign c) t = at (if c == 125 then End else Wrong) t
behind_token (Colon k) (Sign c) t = at (if c == 58 then Value k else Wrong) t
behind_token (Value k) (Text b) t = if bytes_eq k (codes "descr") then at Next (record t { descr = Some b }) else at Wrong t
behind_token (Value k) (Word w) t =
    if bytes_eq k (codes "fortran_order") && (bytes_eq w true_word || bytes_eq w false_word) then at Next (record t { fortran_order = Some (bytes_eq w true_word) }) else at Wrong t
behind_token (Value k) (Sign c) t = at (if bytes_eq k (codes "shape") && c == 40 then Axis [] else Wrong) t
behind_token (Axis ns) (Number n) t = at (Comma (ns ++ n ∷ [])) t
behind_token (Axis ns) (Sign c) t = if c == 41 then at Next (record t { shape = Some ns }) else at Wrong t
behind_token (Comma ns) (Sign c) t =
    if c == 44 then at (Axis ns) t else (if c == 41 && nat_lt 1 (length ns) then at Next (record t { shape = Some ns }) else at Wrong t)
behind_token Next (Sign c) t = at (if c == 44 then Key else (if c == 125 then End else Wrong)) t
behind_token p x t = at Wrong t

-- ---- tokens

pub data Within : Type 0 where
  Between : Within
  Quoted : (quote : ℕ) (bytes : List ℕ) → Within
  Digits : (value : ℕ) → Within
  Letters : (bytes : List ℕ) → Within

pub record Scan : Type 0 where
  pub within : Within
  pub place : Place
  pub told : Told

abbrev pub scan : Within → Parse → Scan
scan within parse = record { within = within; place = parse.place; told = parse.told }

-- a newline is one too: the dictionary is in brackets
abbrev pub is_blank : ℕ → Bool
is_blank byte = byte == 32 || (byte == 9 || (byte == 12 || byte == 10))

abbrev pub is_quote : ℕ → Bool
is_quote byte = byte == 39 || byte == 34

abbrev pub is_letter : ℕ → Bool
is_letter byte = (nat_le 65 byte && nat_le byte 90) || ((nat_le 97 byte && nat_le byte 122) || byte == 95)

abbrev pub is_sign : ℕ → Bool
is_sign byte = (byte == 123 || byte == 125) || ((byte == 40 || byte == 41) || (byte == 44 || byte == 58))

-- a sign of ASCII, and no backslash
abbrev pub is_plain_sign : ℕ → Bool
is_plain_sign byte = nat_le 32 byte && (nat_lt byte 127 && not (byte == 92))

-- a byte between tokens
abbrev pub begin : ℕ → Parse → Scan
begin byte p =
    if is_blank byte then scan Between p
    else (if is_quote byte then scan (Quoted byte []) p
    else (if is_digit byte then scan (Digits (byte - 48)) p
    else (if is_letter byte then scan (Letters (byte ∷ [])) p
    else scan Between (if is_sign byte then behind_token p.place (Sign byte) p.told else at Wrong p.told))))

-- a byte, by what it stands in
abbrev pub behind_byte : Within → ℕ → Place → Told → Scan
behind_byte Between byte p t = begin byte (at p t)
behind_byte (Quoted quote bytes) byte p t =
    if byte == quote then scan Between (behind_token p (Text bytes) t)
    else (if is_plain_sign byte then scan (Quoted quote (bytes ++ byte ∷ [])) (at p t) else scan Between (at Wrong t))
behind_byte (Digits value) byte p t =
    if is_digit byte then (if value == 0 then scan Between (at Wrong t) else scan (Digits (value * 10 + (byte - 48))) (at p t))
    else begin byte (behind_token p (Number value) t)
behind_byte (Letters bytes) byte p t =
    if is_letter byte || is_digit byte then scan (Letters (bytes ++ byte ∷ [])) (at p t) else begin byte (behind_token p (Word bytes) t)

abbrev pub step : Scan → ℕ → Scan
step s byte = behind_byte s.within byte s.place s.told

abbrev pub nothing_told : Told
nothing_told = record { descr = None; fortran_order = None; shape = None }

-- ---- the whole

abbrev pub finished : Within → Place → Told → Option Told
finished Between End t = Some t
finished w p t = None

abbrev pub finish : Scan → Option Told
finish s = finished s.within s.place s.told

abbrev pub read_literal : List ℕ → Option Told
read_literal text = finish (fold step (scan Between (at Start nothing_told)) text)
