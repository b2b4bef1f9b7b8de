-- Numbers, and bytes in hexadecimal digits.
-- Source: own; they undo how a listing prints numbers and bytes. The shortest spelling of a long number is that of Python's `encode_long`.
use Rattle.std.specs.Prelude.{ℕ, zero, suc, ◌-◌, ◌*◌, ◌^◌, ◌==◌, ◌&&◌, ◌||◌, nat_lt, nat_le, if◌then◌else◌, Bool, true, false, List, [], ◌∷◌, ◌++◌, length, take, drop, slice_index, Option, Some, None, Result, Ok, Err}
use Rattle.std.specs.Option.{option_map_or}
use Rattle.std.specs.List.{list_all}
use Rattle.byteorder.specs.Endian.{little_bytes}
use Rattle.hex.specs.Hex.{decode_of}
use Rattle.hex.specs.declared.error.FromHexError.{FromHexError}
use Rattle.pickle_ops.specs.declared.form.Form.{Form}
use Rattle.pickle_ops.specs.declared.form.Form.TheVariants as form
use Rattle.pickle_ops.specs.Shape.{is_digit, value_of, decimal_of}
use Rattle.opcode_assembler.specs.declared.fault.Reason.{Reason}
use Rattle.opcode_assembler.specs.declared.fault.Reason.TheVariants as why
use Rattle.opcode_assembler.specs.Words.{word, after_word}
use Rattle.opcode_assembler.specs.Quotes.{Read}

-- ---- hexadecimal digits

abbrev pub decoded : Result (List ℕ) FromHexError → List ℕ → Read
decoded (Ok bytes) rest = Ok (bytes, rest)
decoded (Err e) rest = Err why.NoHex

-- a word of digits of either case, two a byte
abbrev pub hex_first : List ℕ → Read
hex_first text = decoded (decode_of (word text)) (after_word text)

-- ---- numbers without a sign

-- how many bytes a number of this form has, or the count of a text
abbrev pub width_of : Form → ℕ
width_of form.Uint1 = 1
width_of form.Uint2 = 2
width_of form.Uint4 = 4
width_of form.Bytes1 = 1
width_of form.Bytes4 = 4
width_of form.String4 = 4
width_of _ = 8

-- the greatest number that they say
abbrev pub most_of : Form → ℕ
most_of form.Uint1 = 2 ^ 8 - 1
most_of form.Uint2 = 2 ^ 16 - 1
most_of form.Uint4 = 2 ^ 32 - 1
most_of form.Bytes1 = 2 ^ 8 - 1
most_of form.Bytes4 = 2 ^ 32 - 1
most_of form.String4 = 2 ^ 31 - 1
most_of _ = 2 ^ 64 - 1

-- the bytes of a number, the lowest first, if it is not above that
abbrev pub fixed_bytes : Form → ℕ → List ℕ → Read
fixed_bytes f number rest = if nat_le number (most_of f) then Ok (little_bytes (width_of f) number, rest) else Err why.NumberTooLarge

abbrev pub fixed_first : Form → List ℕ → Read
fixed_first f text = option_map_or (λ (n : ℕ). fixed_bytes f n (after_word text)) (decimal_of (word text)) (Err why.NoNumber)

-- a number in a line, as its digits are written
abbrev pub line_first : List ℕ → Read
line_first text = option_map_or (λ (n : ℕ). Ok (word text ++ 10 ∷ [], after_word text)) (decimal_of (word text)) (Err why.NoNumber)

-- ---- numbers with a sign

abbrev pub has_minus : List ℕ → Bool
has_minus w = slice_index w 0 == 45

abbrev pub unsigned : List ℕ → List ℕ
unsigned w = if has_minus w then drop 1 w else w

-- one or more digits, of a number of 128 bits; leading zeros are allowed
abbrev pub is_wide : List ℕ → Bool
is_wide text = nat_lt 0 (length text) && list_all is_digit text && nat_lt (value_of text) (2 ^ 128)

abbrev pub wide_of : List ℕ → Option ℕ
wide_of text = if is_wide text then Some (value_of text) else None

-- the number that stands for one below 0, in two's complement of this width; there is one 0
abbrev pub below_0 : ℕ → ℕ → ℕ
below_0 width number = if number == 0 then 0 else 2 ^ (8 * width) - number

-- the number that stands for this one, if its bytes can be so few
abbrev pub twos_of : ℕ → Bool → ℕ → Option ℕ
twos_of width true number = if nat_le number (2 ^ (8 * width - 1)) then Some (below_0 width number) else None
twos_of width false number = if nat_lt number (2 ^ (8 * width - 1)) then Some number else None

-- its bytes, the lowest first
abbrev pub signed_bytes : ℕ → List ℕ → ℕ → Result (List ℕ) Reason
signed_bytes width w number = option_map_or (λ (x : ℕ). Ok (little_bytes width x)) (twos_of width (has_minus w) number) (Err why.NumberTooLarge)

-- a word of digits, behind a minus where the number is below 0
abbrev pub signed_word : ℕ → List ℕ → Result (List ℕ) Reason
signed_word width w = option_map_or (signed_bytes width w) (wide_of (unsigned w)) (Err why.NoNumber)

-- ---- the shortest bytes of a number

-- a last byte that says no more than the bytes before it: 0 behind a number that is not below 0, 255 behind one that is
abbrev pub says_no_more : List ℕ → ℕ → Bool
says_no_more bytes n =
    (slice_index bytes n == 0 && (n == 0 || nat_lt (slice_index bytes (n - 1)) 128))
    || (slice_index bytes n == 255 && nat_lt 0 n && nat_le 128 (slice_index bytes (n - 1)))

-- how many of the first n bytes say as much
unfoldable pub least_len : List ℕ → ℕ → ℕ
least_len bytes zero = 0
least_len bytes (suc n) = if says_no_more bytes n then least_len bytes n else suc n

abbrev pub shortest : List ℕ → List ℕ
shortest bytes = take (least_len bytes 16) bytes
