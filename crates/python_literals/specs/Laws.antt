-- Python's grammar of literals reads each text back as the value that it was written for, and no text has more than one line.
-- Source: own.
use Rattle.std.specs.Prelude.{◌≡◌, ℕ, ℤ, ◌==◌, ◌||◌, ◌++◌, Bool, true, false, List, codes, Option, Some, from_bits}
use Rattle.std.specs.Float.{binary64, float_is_finite}
use Rattle.std.specs.List.{list_any}
use Rattle.std.specs.Str.{chars, encode_utf8_all, IsUtf8}
use Rattle.hex.specs.Hex.{IsBytes}
use Rattle.pickle_names.specs.declared.coding.Coding.TheVariants as coding
use Rattle.pickle_names.specs.Value.{decode_all}
use Rattle.python_literals.specs.Text.{str_text, bytes_text, bytearray_text}
use Rattle.python_literals.specs.Numbers.{int_text}
use Rattle.python_literals.specs.Floats.{IsDoubleText}
use Rattle.python_literals.specs.Grammar.{reads_str, reads_bytes, reads_int, reads_float}

-- a text is read by a loader, halves of surrogate pairs too
abbrev pub IsText : List ℕ → Type 0
IsText text = (decode_all coding.AnyUtf8 text).good ≡ true

-- the literal of a text is read as its characters, and these have its bytes
pub record IsReadBack (text : List ℕ) : Type 0 where
  pub read : reads_str (str_text text) ≡ Some (chars text)
  pub same : encode_utf8_all (chars text) ≡ text

abbrev pub StrReadBack : Type 0
StrReadBack = (text : List ℕ) → IsText text → IsReadBack text

abbrev pub BytesReadBack : Type 0
BytesReadBack = (bytes : List ℕ) → IsBytes bytes → reads_bytes (bytes_text bytes) ≡ Some bytes

-- a call of `bytearray` is given such a literal
pub record IsCall (bytes : List ℕ) : Type 0 where
  pub literal : List ℕ
  pub call : bytearray_text bytes ≡ codes "bytearray(" ++ (literal ++ codes ")")
  pub read : reads_bytes literal ≡ Some bytes

abbrev pub BytearrayReadBack : Type 0
BytearrayReadBack = (bytes : List ℕ) → IsBytes bytes → IsCall bytes

abbrev pub IntReadBack : Type 0
IntReadBack = (z : ℤ) → reads_int (int_text z) ≡ Some z

-- the text of a finite float is a literal, and read as that float
abbrev pub FloatReadBack : Type 0
FloatReadBack = (bits : ℕ) (text : List ℕ) → IsDoubleText bits text → float_is_finite (from_bits binary64 bits) ≡ true → reads_float text ≡ Some (from_bits binary64 bits)

-- ---- lines

abbrev pub ends_line : ℕ → Bool
ends_line c = c == 10 || c == 13

pub record IsPartOfLine (text : List ℕ) : Type 0 where
  pub utf8 : IsUtf8 text
  pub one : list_any ends_line text ≡ false

pub record StaysOneLine : Type 0 where
  pub texts : (text : List ℕ) → IsPartOfLine (str_text text)
  pub bytes : (bytes : List ℕ) → IsPartOfLine (bytes_text bytes)
  pub bytearrays : (bytes : List ℕ) → IsPartOfLine (bytearray_text bytes)
  pub ints : (z : ℤ) → IsPartOfLine (int_text z)
