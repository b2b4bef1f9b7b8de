-- The bytes of arguments.
-- Source: own; they undo the texts of `pickle_ops/specs/Text.antt`.
use Rattle.std.specs.Prelude.{ℕ, ◌==◌, ◌||◌, ◌&&◌, not, nat_le, if◌then◌else◌, Bool, true, false, List, [], ◌∷◌, ◌++◌, length, codes, to_bits, Result, Ok, Err}
use Rattle.std.specs.Option.{option_map_or}
use Rattle.std.specs.List.{prefix_len}
use Rattle.std.specs.Float.{binary64}
use Rattle.std.specs.Float.Ieee.{Float}
use Rattle.std.specs.Float.Parse.{parse_float}
use Rattle.byteorder.specs.Endian.{little_bytes, big_bytes}
use Rattle.pickle_ops.specs.declared.form.Form.{Form}
use Rattle.pickle_ops.specs.declared.form.Form.TheVariants as form
use Rattle.pickle_ops.specs.declared.opcode.Opcode.{Opcode}
use Rattle.pickle_ops.specs.declared.opcode.Opcode.TheVariants as op
use Rattle.pickle_ops.specs.Shape.{is_digit}
use Rattle.pickle_ops.specs.Table.{form_of}
use Rattle.pickle_ops.specs.Text.{is_long}
use Rattle.opcode_assembler.specs.declared.fault.Reason.{Reason}
use Rattle.opcode_assembler.specs.declared.fault.Reason.TheVariants as why
use Rattle.opcode_assembler.specs.Words.{trimmed, word, after_word, behind}
use Rattle.opcode_assembler.specs.Quotes.{Read, is_quote, text_first}
use Rattle.opcode_assembler.specs.Numbers.{hex_first, width_of, most_of, fixed_first, line_first, signed_word, shortest}

-- ---- one after another

-- what was read is taken on
abbrev pub and_then : Read → (List ℕ → List ℕ → Read) → Read
and_then (Ok p) next = next p.0 p.1
and_then (Err r) next = Err r

abbrev pub with_rest : List ℕ → Result (List ℕ) Reason → Read
with_rest rest (Ok bytes) = Ok (bytes, rest)
with_rest rest (Err r) = Err r

-- ---- by the form

-- bytes behind their count
abbrev pub counted : Form → List ℕ → List ℕ → Read
counted f bytes rest = if nat_le (length bytes) (most_of f) then Ok (little_bytes (width_of f) (length bytes) ++ bytes, rest) else Err why.TextTooLong

-- a text as a line
abbrev pub lined : List ℕ → List ℕ → Read
lined bytes rest = Ok (bytes ++ 10 ∷ [], rest)

-- two texts as two lines, the second behind the first
abbrev pub second_line : List ℕ → List ℕ → Read
second_line first rest = and_then (text_first rest) (λ second left. Ok (first ++ 10 ∷ (second ++ 10 ∷ []), left))

-- the double that is nearest to a number in decimal digits, in eight bytes, the highest first
-- Source: IEEE 754, as Python's `float` and `struct.pack('>d', ..)`.
abbrev pub nearest_first : List ℕ → Read
nearest_first text = option_map_or (λ (x : Float). Ok (big_bytes 8 (to_bits binary64 x), after_word text)) (parse_float binary64 (word text)) (Err why.NoFloat)

-- `f8:` and these bytes in hexadecimal digits, or the number
abbrev pub float_first : List ℕ → Read
float_first text = option_map_or hex_first (behind (codes "f8:") (trimmed text)) (nearest_first text)

-- a number with a sign, in four bytes
abbrev pub signed_first : List ℕ → Read
signed_first text = with_rest (after_word text) (signed_word 4 (word text))

-- a number of up to sixteen bytes
abbrev pub shortened : Result (List ℕ) Reason → List ℕ → Read
shortened (Ok bytes) rest = Ok (shortest bytes, rest)
shortened (Err r) rest = Err r

-- the bytes of a long number: in hexadecimal digits behind `le:`, or the fewest that say it
abbrev pub long_first : List ℕ → Read
long_first text = option_map_or hex_first (behind (codes "le:") (trimmed text)) (shortened (signed_word 16 (word text)) (after_word text))

-- the argument of a form, as a listing spells it
abbrev pub form_first : Form → List ℕ → Read
form_first form.Empty text = Ok ([], text)
form_first form.Uint1 text = fixed_first form.Uint1 text
form_first form.Uint2 text = fixed_first form.Uint2 text
form_first form.Uint4 text = fixed_first form.Uint4 text
form_first form.Uint8 text = fixed_first form.Uint8 text
form_first form.Int4 text = signed_first text
form_first form.Float8 text = float_first text
form_first form.Line text = and_then (text_first text) lined
form_first form.Quoted text = and_then (text_first text) lined
form_first form.Decimal text = line_first text
form_first form.Two text = and_then (text_first text) second_line
form_first form.Bytes1 text = and_then (text_first text) (counted form.Bytes1)
form_first form.Bytes4 text = and_then (text_first text) (counted form.Bytes4)
form_first form.Bytes8 text = and_then (text_first text) (counted form.Bytes8)
form_first form.String4 text = and_then (text_first text) (counted form.String4)

-- the opcodes whose line is a number
abbrev pub is_numeral : Opcode → Bool
is_numeral op.Int = true
is_numeral op.Long = true
is_numeral op.Float = true
is_numeral _ = false

-- a text is in front
abbrev pub has_text : List ℕ → Bool
has_text [] = false
has_text (byte ∷ rest) = is_quote byte || byte == 98

-- digits, signs, a dot, the `e` of a power of ten, the `L` of a long number
abbrev pub is_numeral_byte : ℕ → Bool
is_numeral_byte byte = is_digit byte || byte == 43 || byte == 45 || byte == 46 || byte == 101 || byte == 69 || byte == 76

abbrev pub is_number : List ℕ → Bool
is_number w = not (length w == 0) && prefix_len is_numeral_byte w == length w

-- a number in a line, as it is written
abbrev pub numeral_first : List ℕ → Read
numeral_first text = if is_number (word text) then Ok (word text ++ 10 ∷ [], after_word text) else Err why.NoText

abbrev pub is_bare : Opcode → List ℕ → Bool
is_bare o text = is_numeral o && not (has_text (trimmed text))

-- the argument of an opcode; that of LONG1 and LONG4 is a number, and so may be that of INT, LONG and FLOAT
abbrev pub spelled_first : Opcode → List ℕ → Read
spelled_first o text =
    if is_long o then and_then (long_first text) (counted (form_of o))
    else if is_bare o text then numeral_first text
    else form_first (form_of o) text

-- or any bytes, in hexadecimal digits behind `hex:`, with their count and newlines
abbrev pub argument_first : Opcode → List ℕ → Read
argument_first o text = option_map_or hex_first (behind (codes "hex:") (trimmed text)) (spelled_first o text)
