-- Which arguments have a text that is read back to the same bytes; and a text of each argument that is.
-- Source: own.
use Rattle.std.specs.Prelude.{ℕ, ◌-◌, ◌==◌, ◌||◌, nat_lt, not, if◌then◌else◌, Bool, true, false, List, length, codes, decimal, Option, Some, None}
use Rattle.std.specs.Str.{bytes_eq}
use Rattle.pickle_io.specs.Text.{◌⧺◌, hexadecimal}
use Rattle.pickle_ops.specs.declared.form.Form.{Form}
use Rattle.pickle_ops.specs.declared.form.Form.TheVariants as form
use Rattle.pickle_ops.specs.Argument.{payload, number_of}
use Rattle.pickle_ops.specs.Spelling.{Operation}
use Rattle.pickle_ops.specs.Table.{form_of}
use Rattle.pickle_ops.specs.Text.{is_long, arg_text}
use Rattle.opcode_assembler.specs.Numbers.{says_no_more}

-- Two kinds of argument have several spellings with one text. A line of digits may have zeros in front: here it has none.
abbrev pub has_plain_digits : Form → List ℕ → Bool
has_plain_digits form.Decimal arg = bytes_eq (payload form.Decimal arg) (decimal (number_of form.Decimal arg))
has_plain_digits _ arg = true

-- The bytes of a long number may go on with bytes that say no more: here the last one says something.
abbrev pub has_last_byte : List ℕ → Bool
has_last_byte bytes = length bytes == 0 || not (says_no_more bytes (length bytes - 1))

-- A number of more than sixteen bytes is shown by its bytes.
abbrev pub has_one_number : List ℕ → Bool
has_one_number bytes = nat_lt 16 (length bytes) || has_last_byte bytes

-- the argument is the one that its text stands for
unfoldable pub is_canonical : Operation → Bool
is_canonical op = if is_long op.opcode then has_one_number (payload (form_of op.opcode) op.arg) else has_plain_digits (form_of op.opcode) op.arg

-- all bytes of an argument
unfoldable pub hex_text : List ℕ → List ℕ
hex_text arg = codes "hex:" ⧺ hexadecimal arg

-- the text of an argument, or in its place a text of all its bytes
abbrev pub text_or : Bool → Option (List ℕ) → List ℕ → Option (List ℕ)
text_or true text bytes = text
text_or false None bytes = None
text_or false (Some text) bytes = Some bytes

-- a text that is read back to the same bytes: its own, if that is
unfoldable pub whole_text : Operation → Option (List ℕ)
whole_text op = text_or (is_canonical op) (arg_text op) (hex_text op.arg)
