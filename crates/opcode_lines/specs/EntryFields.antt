-- The table of opcodes, as JSON Lines and as a text for people: a line for each, in the order of the table.
-- Source: the opcode table of Python's `pickletools`; the names of fields, of forms and of rows are own.
use Rattle.std.specs.Prelude.{ℕ, List, [], codes, Bool, true, false}
use Rattle.json.specs.Json.{string, boolean}
use Rattle.pickle_io.specs.Device.{each}
use Rattle.pickle_io.specs.Text.{◌⧺◌}
use Rattle.pickle_ops.specs.declared.form.Form.{Form}
use Rattle.pickle_ops.specs.declared.form.Form.TheVariants as form
use Rattle.pickle_ops.specs.declared.kind.Kind.{Kind}
use Rattle.pickle_ops.specs.declared.opcode.Opcode.{Opcode}
use Rattle.pickle_ops.specs.declared.opcode.Opcode.TheVariants as op
use Rattle.pickle_ops.specs.declared.row.Row.{Row}
use Rattle.pickle_ops.specs.declared.row.Row.TheVariants as row
use Rattle.pickle_ops.specs.Table.{code_of, name_of, protocol_of, form_of}
use Rattle.pickle_ops.specs.Row.{row_of_opcode, kind_of_opcode}
use Rattle.json_lines.specs.Line.{Field, field, ◌⊕◌, whole, line}
use Rattle.objects_json.specs.ObjectFields.{kind_word}
use Rattle.opcode_lines.specs.Words.{sentence_of, argument_of, takes_of, leaves_of}
use Rattle.opcode_lines.specs.declared.lines.TheConstants.{ALL}

-- ---- forms of arguments

-- a number by its sign and how many bytes it has, a line by what it says, and bytes by how many bytes their length has
unfoldable pub form_name : Form → List ℕ
form_name form.Empty = codes "none"
form_name form.Uint1 = codes "uint1"
form_name form.Uint2 = codes "uint2"
form_name form.Uint4 = codes "uint4"
form_name form.Uint8 = codes "uint8"
form_name form.Int4 = codes "int4"
form_name form.Float8 = codes "float8"
form_name form.Line = codes "line"
form_name form.Quoted = codes "quoted"
form_name form.Decimal = codes "decimal"
form_name form.Two = codes "lines"
form_name form.Bytes1 = codes "bytes1"
form_name form.Bytes4 = codes "bytes4"
form_name form.Bytes8 = codes "bytes8"
form_name form.String4 = codes "bytes4_signed"

-- ---- what an opcode does

-- what the machine does for it. Opcodes of one row differ in how they spell their argument, in how much they take, or in what they make
unfoldable pub row_name : Row → List ℕ
row_name row.Nothing = codes "nothing"
row_name (row.Protocol n) = codes "protocol"
row_name (row.Extension n) = codes "extension"
row_name row.Push = codes "push"
row_name row.Buffer = codes "buffer"
row_name row.ReadOnly = codes "read_only"
row_name (row.Take t) = codes "take"
row_name (row.Cut c) = codes "cut"
row_name (row.Change f) = codes "change"
row_name (row.CutChange f) = codes "cut_change"
row_name row.Pop = codes "pop"
row_name row.PopMark = codes "pop_mark"
row_name row.Dup = codes "dup"
row_name row.Mark = codes "mark"
row_name (row.Get key) = codes "get"
row_name (row.Put key) = codes "put"
row_name row.Memoize = codes "memoize"
row_name row.Stop = codes "stop"

-- it may make an object of its own
abbrev pub makes_by : Row → Bool
makes_by row.Nothing = false
makes_by (row.Protocol n) = false
makes_by (row.Extension n) = true
makes_by row.Push = true
makes_by row.Buffer = true
makes_by row.ReadOnly = true
makes_by (row.Take t) = true
makes_by (row.Cut c) = true
makes_by (row.Change f) = false
makes_by (row.CutChange f) = false
makes_by row.Pop = false
makes_by row.PopMark = false
makes_by row.Dup = false
makes_by row.Mark = false
makes_by (row.Get key) = false
makes_by (row.Put key) = false
makes_by row.Memoize = false
makes_by row.Stop = false

-- whatever its argument is
abbrev pub makes_object : Opcode → Bool
makes_object o = makes_by (row_of_opcode o [])

-- what `objects` calls an object of this kind that a row makes; nothing where the state decides
abbrev pub made_by : Row → Kind → List ℕ
made_by (row.Extension n) k = kind_word k
made_by row.Push k = kind_word k
made_by (row.Take t) k = kind_word k
made_by (row.Cut c) k = kind_word k
made_by _ k = codes ""

-- and nothing of INT, whose argument decides
unfoldable pub object_of : Opcode → List ℕ
object_of op.Int = codes ""
object_of o = made_by (row_of_opcode o []) (kind_of_opcode o [])

-- ---- lines

-- how it is written
abbrev pub spelling_fields : Opcode → List Field
spelling_fields o =
    field (codes "name") (string (name_of o)) ⊕ field (codes "code") (whole (code_of o)) ⊕ field (codes "protocol") (whole (protocol_of o))
    ⊕ field (codes "form") (string (form_name (form_of o))) ⊕ field (codes "argument") (string (argument_of o))

-- what the machine does for it
abbrev pub row_fields : Opcode → List Field
row_fields o =
    field (codes "row") (string (row_name (row_of_opcode o []))) ⊕ field (codes "makes") (boolean (makes_object o))
    ⊕ field (codes "object_is") (string (object_of o))

-- what it does
abbrev pub deed_fields : Opcode → List Field
deed_fields o =
    field (codes "takes") (string (takes_of o)) ⊕ field (codes "leaves") (string (leaves_of o))
    ⊕ field (codes "sentence") (string (sentence_of o))

abbrev pub entry_fields : Opcode → List Field
entry_fields o = spelling_fields o ⊕ row_fields o ⊕ deed_fields o

unfoldable pub entry_line : Opcode → List ℕ
entry_line o = line (codes "entry") (entry_fields o)

abbrev pub table_text : List ℕ
table_text = each entry_line ALL

-- ---- for people

-- the name and what the opcode does
unfoldable pub plain_line : Opcode → List ℕ
plain_line o = name_of o ⧺ codes ": " ⧺ sentence_of o ⧺ codes "\n"

abbrev pub plain_text : List ℕ
plain_text = each plain_line ALL
