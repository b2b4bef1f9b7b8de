-- What the source has for a plain value. A value is spelled as Python's `repr` spells it. Bytes of a text of Python 2 or of a line that stand for
-- others, and bytes that no loader reads, are left to Python's own decoders and to a loader of the one opcode, `unpickle`.
-- Source: Python's `repr`; Lib/pickle.py, `load_int`, `load_long`, `load_float`, `load_string`, `load_unicode`, `load_binunicode`,
-- `load_short_binstring`, `load_binfloat`: how each reads its argument.
use Rattle.std.specs.Prelude.{ℕ, ◌-◌, ◌==◌, ◌&&◌, not, nat_le, if◌then◌else◌, Bool, List, length, take, slice_index, codes, Option, Some, None}
use Rattle.std.specs.List.{list_all}
use Rattle.pickle_io.specs.Text.{◌⧺◌}
use Rattle.pickle_ops.specs.Argument.{long_of}
use Rattle.pickle_ops.specs.declared.kind.Kind.{Kind}
use Rattle.pickle_ops.specs.declared.kind.Kind.TheVariants as kind
use Rattle.pickle_names.specs.declared.coding.Coding.{Coding}
use Rattle.pickle_names.specs.declared.coding.Coding.TheVariants as coding
use Rattle.pickle_names.specs.Value.{decode_all}
use Rattle.pickle_calls.specs.Naming.{inner}
use Rattle.pickle_source.specs.Value.{is_value}
use Rattle.python_literals.specs.Text.{str_text, bytes_text, bytearray_text}
use Rattle.python_literals.specs.Numbers.{int_text}
use Rattle.python_literals.specs.Floats.{bits_of}

-- ---- what a loader is asked for

unfoldable pub line_end : List ℕ
line_end = codes " + b'\\n.')"

-- `unpickle(b'I' + b' 5' + b'\n.')`: the opcode, its line, and STOP
unfoldable pub line_call : List ℕ → List ℕ → List ℕ
line_call front line = front ⧺ bytes_text line ⧺ line_end

unfoldable pub int_front : List ℕ
int_front = codes "unpickle(b'I' + "

unfoldable pub long_front : List ℕ
long_front = codes "unpickle(b'L' + "

unfoldable pub float_front : List ℕ
float_front = codes "unpickle(b'F' + "

unfoldable pub string_front : List ℕ
string_front = codes "unpickle(b'S' + "

unfoldable pub double_front : List ℕ
double_front = codes "unpickle(b'G' + "

unfoldable pub double_end : List ℕ
double_end = codes " + b'.')"

-- the same of a float in bytes
unfoldable pub double_call : List ℕ → List ℕ
double_call bytes = double_front ⧺ bytes_text bytes ⧺ double_end

-- ---- what a decoder is asked for

unfoldable pub decoder : Coding → List ℕ
decoder coding.Ascii = codes ".decode('ascii')"
decoder coding.Utf8 = codes ".decode('utf-8')"
decoder coding.AnyUtf8 = codes ".decode('utf-8', 'surrogatepass')"
decoder coding.RawEscape = codes ".decode('raw-unicode-escape')"
decoder coding.StringEscape = codes ".decode('ascii')"

-- `b'caf\xe9'.decode('ascii')`
unfoldable pub decoded : Coding → List ℕ → List ℕ
decoded c bytes = bytes_text bytes ⧺ decoder c

-- ---- texts

-- a byte of ASCII that prints, and begins no escape
abbrev pub is_plain : ℕ → Bool
is_plain b = (nat_le 32 b && nat_le b 126) && not (b == 92)

-- each byte stands for itself, however such a text is read
abbrev pub are_plain : List ℕ → Bool
are_plain bytes = list_all is_plain bytes

-- a text without escapes, which is in UTF-8
unfoldable pub text_value : Coding → List ℕ → List ℕ
text_value c bytes = if (decode_all c bytes).good then str_text bytes else decoded c bytes

-- a text in a line, which may have escapes
unfoldable pub line_value : List ℕ → List ℕ
line_value line = if are_plain line then str_text line else decoded coding.RawEscape line

-- a string of Python 2 in a line, between quotes
unfoldable pub string_value : List ℕ → List ℕ
string_value line = if are_plain (inner line) then str_text (inner line) else line_call string_front line

-- by how it is spelled. Names have no escapes
unfoldable pub spelled : Coding → List ℕ → List ℕ
spelled coding.RawEscape bytes = line_value bytes
spelled coding.StringEscape bytes = decoded coding.StringEscape bytes
spelled c bytes = text_value c bytes

-- ---- numbers

abbrev pub ends_in_l : List ℕ → Bool
ends_in_l line = slice_index line (length line - 1) == 76

-- a number of Python 2 may have an L behind it
unfoldable pub without_l : List ℕ → List ℕ
without_l line = if ends_in_l line then take (length line - 1) line else line

abbrev pub float_by : List ℕ → Option (List ℕ) → List ℕ
float_by bytes (Some text) = text
float_by bytes None = double_call bytes

-- the text that is kept of the float of these bytes
unfoldable pub float_value : (ℕ → Option (List ℕ)) → List ℕ → List ℕ
float_value texts bytes = float_by bytes (texts (bits_of bytes))

-- ---- values

-- a number in a line: the line, where Python reads it so
unfoldable pub number_value : Bool → List ℕ → List ℕ → List ℕ → List ℕ
number_value whole front literal line = if whole then literal else line_call front line

-- `texts` has the texts of floats
unfoldable pub value_text : (ℕ → Option (List ℕ)) → Kind → List ℕ
value_text texts kind.None = codes "None"
value_text texts kind.True = codes "True"
value_text texts kind.False = codes "False"
value_text texts (kind.Int n) = int_text n
value_text texts (kind.Long q) = int_text (long_of q)
value_text texts (kind.Float q) = float_value texts q
value_text texts (kind.Bytes q) = bytes_text q
value_text texts (kind.ByteArray q) = bytearray_text q
value_text texts (kind.IntLine q) = number_value (is_value (kind.IntLine q)) int_front q q
value_text texts (kind.LongLine q) = number_value (is_value (kind.LongLine q)) long_front (without_l q) q
value_text texts (kind.FloatLine q) = number_value (is_value (kind.FloatLine q)) float_front q q
value_text texts (kind.LegacyString q) = text_value coding.Ascii q
value_text texts (kind.LegacyLine q) = string_value q
value_text texts (kind.Text q) = text_value coding.AnyUtf8 q
value_text texts (kind.TextLine q) = line_value q
value_text texts _ = codes "None"
