-- The line of an item: its fields.
-- Source: what an argument says is `pickletools`' descriptor of it; the names of fields are own.
use Rattle.std.specs.Prelude.{Bool, true, false, ℕ, ℤ, nat_le, nat_lt, unsigned_abs, if◌then◌else◌, List, [], length, codes, Option, None, Some}
use Rattle.json.specs.Json.{string}
use Rattle.pickle_ops.specs.declared.form.Form.{Form}
use Rattle.pickle_ops.specs.declared.form.Form.TheVariants as form
use Rattle.pickle_ops.specs.Argument.{number_of, signed_of, long_of, payload, first_text, second_text}
use Rattle.pickle_ops.specs.Spelling.{Operation}
use Rattle.pickle_ops.specs.Table.{name_of, form_of}
use Rattle.pickle_ops.specs.Text.{is_long}
use Rattle.json_lines.specs.Line.{Field, field, ◌⊕◌, whole, integer, hex, bytes_field, line}
use Rattle.pickle_json.specs.declared.note.Note.{Note}
use Rattle.pickle_json.specs.declared.note.Note.TheVariants as note

-- ---- arguments

-- a number of an argument, by whether it is below 2^53: from there on it is written by its digits, under another name, so that a text under
-- the first one is never a number
unfoldable pub number_name : Bool → List ℕ
number_name true = codes "argument"
number_name false = codes "argument_digits"

unfoldable pub number_fields : ℕ → List Field
number_fields n = field (number_name (nat_lt n 9007199254740992)) (whole n)

-- the same of a number that may be below 0
unfoldable pub integer_fields : ℤ → List Field
integer_fields z = field (number_name (nat_lt (unsigned_abs z) 9007199254740992)) (integer z)

-- bytes that an argument holds: as text where they are UTF-8, else in hexadecimal
unfoldable pub payload_fields : List ℕ → List Field
payload_fields bytes = bytes_field (codes "argument") (codes "argument_hex") bytes

-- the bytes of a double, the highest first
unfoldable pub double_fields : List ℕ → List Field
double_fields bytes = field (codes "argument_f8_hex") (hex bytes)

-- the bytes of a number in two's complement, the lowest first
unfoldable pub lowest_first_fields : List ℕ → List Field
lowest_first_fields bytes = field (codes "argument_le_hex") (hex bytes)

-- a number in two's complement: up to sixteen bytes as the number, more by its bytes
unfoldable pub long_fields : List ℕ → List Field
long_fields bytes = if nat_le (length bytes) 16 then integer_fields (long_of bytes) else lowest_first_fields bytes

-- a module and a name
unfoldable pub names_fields : List ℕ → List ℕ → List Field
names_fields first second = bytes_field (codes "module") (codes "module_hex") first ⊕ bytes_field (codes "name") (codes "name_hex") second

abbrev pub form_fields : Form → List ℕ → List Field
form_fields form.Empty arg = []
form_fields form.Uint1 arg = number_fields (number_of form.Uint1 arg)
form_fields form.Uint2 arg = number_fields (number_of form.Uint2 arg)
form_fields form.Uint4 arg = number_fields (number_of form.Uint4 arg)
form_fields form.Uint8 arg = number_fields (number_of form.Uint8 arg)
form_fields form.Int4 arg = integer_fields (signed_of arg)
form_fields form.Float8 arg = double_fields (payload form.Float8 arg)
form_fields form.Line arg = payload_fields (payload form.Line arg)
form_fields form.Quoted arg = payload_fields (payload form.Quoted arg)
form_fields form.Decimal arg = number_fields (number_of form.Decimal arg)
form_fields form.Two arg = names_fields (first_text arg) (second_text arg)
form_fields form.Bytes1 arg = payload_fields (payload form.Bytes1 arg)
form_fields form.Bytes4 arg = payload_fields (payload form.Bytes4 arg)
form_fields form.Bytes8 arg = payload_fields (payload form.Bytes8 arg)
form_fields form.String4 arg = payload_fields (payload form.String4 arg)

unfoldable pub arg_fields : Operation → List Field
arg_fields op =
    if is_long op.opcode then long_fields (payload (form_of op.opcode) op.arg)
    else form_fields (form_of op.opcode) op.arg

-- ---- items

-- the mark that is taken, by the offset where it was set; the key under which the memo gets the top
abbrev pub note_fields : Option Note → List Field
note_fields None = []
note_fields (Some (note.MarkAt offset)) = field (codes "mark") (whole offset)
note_fields (Some (note.As key)) = field (codes "memo") (whole key)

-- where it is, and its opcode
unfoldable pub head_fields : Operation → ℕ → List Field
head_fields o offset = field (codes "offset") (whole offset) ⊕ field (codes "opcode") (string (name_of o.opcode))

-- its argument, how many marks are open before it, and its note
unfoldable pub rest_fields : Operation → ℕ → Option Note → List Field
rest_fields o marks n = arg_fields o ⊕ field (codes "marks") (whole marks) ⊕ note_fields n

abbrev pub item_fields : Operation → ℕ → ℕ → Option Note → List Field
item_fields o offset marks n = head_fields o offset ⊕ rest_fields o marks n

unfoldable pub item_line : Operation → ℕ → ℕ → Option Note → List ℕ
item_line o offset marks n = line (codes "opcode") (item_fields o offset marks n)

-- ---- how a line is put together: what is before the value of a field

unfoldable pub opcode_begun : List ℕ
opcode_begun = codes "{\"kind\":\"opcode\",\"offset\":"

unfoldable pub opcode_named : List ℕ
opcode_named = codes ",\"opcode\":\""

unfoldable pub argument_named : List ℕ
argument_named = codes ",\"argument\":"

unfoldable pub digits_named : List ℕ
digits_named = codes ",\"argument_digits\":"

unfoldable pub marks_named : List ℕ
marks_named = codes ",\"marks\":"

unfoldable pub mark_named : List ℕ
mark_named = codes ",\"mark\":"

unfoldable pub memo_named : List ℕ
memo_named = codes ",\"memo\":"
