-- Floats.
-- Source: IEEE 754, binary64. Python has no literal of infinity and of what is no number: how these are spelled is own.
use Rattle.std.specs.Prelude.{◌≡◌, ℕ, ◌-◌, ◌%◌, ◌^◌, ◌==◌, nat_lt, if◌then◌else◌, Bool, true, false, List, length, codes, Result, Some, from_bits}
use Rattle.std.specs.Float.{binary64, float_is_finite}
use Rattle.byteorder.specs.Endian.{big_number}
use Rattle.pickle_io.specs.Device.{Told, Writes}
use Rattle.python_literals.specs.Grammar.{reads_float}

-- of 64 bits the first is the sign
abbrev pub is_negative : ℕ → Bool
is_negative bits = nat_lt (2 ^ 63 - 1) bits

-- no bits of the digits are set
abbrev pub is_infinite : ℕ → Bool
is_infinite bits = bits % 2 ^ 52 == 0

abbrev pub infinity_text : Bool → List ℕ
infinity_text true = codes "float('-inf')"
infinity_text false = codes "float('inf')"

abbrev pub nan_text : Bool → List ℕ
nan_text true = codes "-float('nan')"
nan_text false = codes "float('nan')"

-- where all bits of the exponent are set
unfoldable pub word_text : ℕ → List ℕ
word_text bits = if is_infinite bits then infinity_text (is_negative bits) else nan_text (is_negative bits)

-- a literal that is read as this float, where it is finite, and else a word. Which of the literals it is, is not said: it is the shortest that
-- `ryu` finds
abbrev pub IsTextOf : Bool → ℕ → List ℕ → Type 0
IsTextOf true bits text = reads_float text ≡ Some (from_bits binary64 bits)
IsTextOf false bits text = text ≡ word_text bits

abbrev pub IsDoubleText : ℕ → List ℕ → Type 0
IsDoubleText bits text = IsTextOf (float_is_finite (from_bits binary64 bits)) bits text

-- the bits by their bytes, the highest first; other than eight bytes are no number
unfoldable pub bits_of : List ℕ → ℕ
bits_of bytes = if length bytes == 8 then big_number 8 bytes else 0x7ff8000000000000

abbrev pub IsFloatText : List ℕ → List ℕ → Type 0
IsFloatText bytes text = IsDoubleText (bits_of bytes) text

-- a text of this float is written, or after an error a beginning of it
abbrev pub WritesDouble : {A E : Type 0} → Told → Told → Result A E → ℕ → Type 0
WritesDouble old new r bits = (text : List ℕ) × IsDoubleText bits text × Writes old new r text

abbrev pub WritesFloat : {A E : Type 0} → Told → Told → Result A E → List ℕ → Type 0
WritesFloat old new r bytes = WritesDouble old new r (bits_of bytes)
