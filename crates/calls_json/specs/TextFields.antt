-- Texts, payloads and numbers of the lines of calls, as fields.
-- Source: how the texts for people cut them, `Brief` of `pickle_calls` says; the names of fields are own.
use Rattle.std.specs.Prelude.{Bool, ℕ, ℤ, ◌-◌, ◌==◌, ◌&&◌, not, nat_le, nat_lt, unsigned_abs, if◌then◌else◌, List, [], length, take, codes}
use Rattle.std.specs.List.{list_all}
use Rattle.pickle_names.specs.declared.coding.Coding.{Coding}
use Rattle.pickle_names.specs.declared.coding.Coding.TheVariants as coding
use Rattle.pickle_names.specs.Value.{Decoded, decode, decode_all}
use Rattle.pickle_ops.specs.Argument.{long_of}
use Rattle.pickle_calls.specs.declared.naming.Detail.{Detail}
use Rattle.pickle_calls.specs.declared.naming.Detail.TheVariants as detail
use Rattle.pickle_calls.specs.Brief.{most_bytes, most_characters}
use Rattle.json_lines.specs.Line.{Field, field, ◌⊕◌, whole, integer, hex, bytes_field}
use Rattle.calls_json.specs.declared.said.Said.{Said}
use Rattle.calls_json.specs.declared.said.Said.TheVariants as said
use Rattle.calls_json.specs.SaidNames.{text_name, hex_name, raw_name, unicode_name, string_name}

-- how many bytes were cut off, if any
unfoldable pub more_fields : ℕ → List Field
more_fields n = if n == 0 then [] else field (codes "more") (whole n)

-- ---- texts

-- bytes that are their own value
unfoldable pub own_fields : Said → List ℕ → List Field
own_fields w bytes = bytes_field (text_name w) (hex_name w) bytes

-- bytes in hexadecimal under a name
unfoldable pub hex_fields : List ℕ → List ℕ → List Field
hex_fields name bytes = field name (hex bytes)

-- a byte that stands for itself, whatever escapes there are
abbrev pub is_own : ℕ → Bool
is_own b = nat_lt b 128 && not (b == 92)

-- a text whose spelling may have escapes
unfoldable pub escaped_fields : List ℕ → Said → List ℕ → List Field
escaped_fields name w bytes = if list_all is_own bytes then own_fields w bytes else hex_fields name bytes

-- a text that can be read: by its value, or by its bytes where they spell it with escapes
unfoldable pub spelled_fields : Said → Coding → List ℕ → List Field
spelled_fields w coding.Ascii bytes = own_fields w bytes
spelled_fields w coding.Utf8 bytes = own_fields w bytes
spelled_fields w coding.AnyUtf8 bytes = own_fields w bytes
spelled_fields w coding.RawEscape bytes = escaped_fields (unicode_name w) w bytes
spelled_fields w coding.StringEscape bytes = escaped_fields (string_name w) w bytes

-- a text, which may not be one that can be read
abbrev pub whole_by : Decoded → Said → Coding → List ℕ → List Field
whole_by d w c bytes = if d.good then spelled_fields w c bytes else hex_fields (raw_name w) bytes

unfoldable pub whole_fields : Said → Coding → List ℕ → List Field
whole_fields w c bytes = whole_by (decode_all c bytes) w c bytes

-- the bytes that were read, and how many there are behind them
abbrev pub front_fields : Coding → ℕ → List ℕ → List Field
front_fields c left bytes = spelled_fields said.Value c (take (length bytes - left) bytes) ⊕ more_fields left

-- the first bytes, and how many there are behind them
unfoldable pub raw_fields : List ℕ → List Field
raw_fields bytes = hex_fields (raw_name said.Value) (take most_bytes bytes) ⊕ more_fields (length bytes - most_bytes)

abbrev pub cut_by : Decoded → Coding → List ℕ → List Field
cut_by d c bytes = if d.good then front_fields c (length d.rest) bytes else raw_fields bytes

-- the first characters of a text
unfoldable pub cut_fields : Coding → List ℕ → List Field
cut_fields c bytes = cut_by (decode c most_characters bytes) c bytes

-- a text that is cut, or shown in full
unfoldable pub text_fields : Detail → Coding → List ℕ → List Field
text_fields detail.Cut c bytes = cut_fields c bytes
text_fields detail.Full c bytes = whole_fields said.Value c bytes

-- ---- payloads

unfoldable pub cut_payload : List ℕ → List Field
cut_payload q = own_fields said.Value (take most_bytes q) ⊕ more_fields (length q - most_bytes)

unfoldable pub payload_value : Detail → List ℕ → List Field
payload_value detail.Cut q = cut_payload q
payload_value detail.Full q = own_fields said.Value q

-- ---- numbers

-- a number; where it is no number of JSON, its digits under another name
unfoldable pub integer_name : Bool → List ℕ
integer_name exact = if exact then codes "value" else codes "digits"

unfoldable pub integer_value : ℤ → List Field
integer_value z = field (integer_name (nat_lt (unsigned_abs z) 9007199254740992)) (integer z)

-- a number in two's complement: up to sixteen bytes as the number, more by its bytes, the lowest first
unfoldable pub long_value : List ℕ → List Field
long_value bytes = if nat_le (length bytes) 16 then integer_value (long_of bytes) else hex_fields (codes "le_hex") bytes

unfoldable pub cut_long : List ℕ → List Field
cut_long bytes = long_value (take most_bytes bytes) ⊕ more_fields (length bytes - most_bytes)

unfoldable pub shown_long : Detail → List ℕ → List Field
shown_long detail.Cut bytes = cut_long bytes
shown_long detail.Full bytes = long_value bytes
