-- Objects in brief as objects of JSON, and operands: what is shown of them, and where they are cut, is as in the texts for people.
-- Source: own.
use Rattle.std.specs.Prelude.{ℕ, ℤ, ◌-◌, ◌==◌, if◌then◌else◌, List, [], length, take, slice_get, codes, map, Some}
use Rattle.std.specs.Option.{option_map_or}
use Rattle.json.specs.Json.{Json, array}
use Rattle.json.specs.Value.{items_of}
use Rattle.pickle_io.specs.Text.{◌⧺◌}
use Rattle.json_lines.specs.Json.{value_text, items_text}
use Rattle.json_lines.specs.Line.{Field, field, ◌⊕◌, whole, integer, hex, line_object}
use Rattle.pickle_names.specs.declared.coding.Coding.TheVariants as coding
use Rattle.pickle_ops.specs.declared.kind.Kind.{Kind}
use Rattle.pickle_ops.specs.declared.kind.Kind.TheVariants as kind
use Rattle.pickle_ops.specs.Object.{Object}
use Rattle.pickle_calls.specs.declared.naming.Detail.{Detail}
use Rattle.pickle_calls.specs.declared.naming.Detail.TheVariants as detail
use Rattle.pickle_calls.specs.declared.naming.Naming.{Naming}
use Rattle.pickle_calls.specs.Naming.{inner, global_pair, stack_pair}
use Rattle.pickle_calls.specs.Brief.{most_objects}
use Rattle.calls_json.specs.declared.said.Operand.{Operand}
use Rattle.calls_json.specs.SaidNames.{operand_name, operand_more}
use Rattle.calls_json.specs.TextFields.{text_fields, payload_value, integer_value, shown_long}
use Rattle.calls_json.specs.NameFields.{id_fields, names_fields}

-- ---- an object

-- what kind of value it is; what is shown by its number alone is an object
unfoldable pub kind_word : Kind → List ℕ
kind_word kind.None = codes "none"
kind_word kind.True = codes "true"
kind_word kind.False = codes "false"
kind_word (kind.Int n) = codes "int"
kind_word (kind.Long bytes) = codes "int"
kind_word (kind.IntLine q) = codes "int-line"
kind_word (kind.LongLine q) = codes "long-line"
kind_word (kind.FloatLine q) = codes "float-line"
kind_word (kind.Float bytes) = codes "float"
kind_word (kind.LegacyString q) = codes "string"
kind_word (kind.LegacyLine q) = codes "string"
kind_word (kind.Text q) = codes "text"
kind_word (kind.TextLine q) = codes "text"
kind_word (kind.Bytes q) = codes "bytes"
kind_word (kind.ByteArray q) = codes "bytearray"
kind_word (kind.Global names) = codes "global"
kind_word kind.StackGlobal = codes "global"
kind_word (kind.Ext n) = codes "extension"
kind_word _ = codes "object"

-- the bytes of a double, the highest first
unfoldable pub double_fields : List ℕ → List Field
double_fields bytes = field (codes "f8_hex") (hex bytes)

-- the code of an extension
unfoldable pub code_fields : ℤ → List Field
code_fields n = field (codes "number") (integer n)

-- what it is
unfoldable pub kind_fields : Naming → List Object → ℕ → Kind → List ℕ → List Field
kind_fields m heap id kind.None parts = []
kind_fields m heap id kind.True parts = []
kind_fields m heap id kind.False parts = []
kind_fields m heap id (kind.Int n) parts = integer_value n
kind_fields m heap id (kind.Long bytes) parts = shown_long m.detail bytes
kind_fields m heap id (kind.IntLine q) parts = payload_value m.detail q
kind_fields m heap id (kind.LongLine q) parts = payload_value m.detail q
kind_fields m heap id (kind.FloatLine q) parts = payload_value m.detail q
kind_fields m heap id (kind.Float bytes) parts = double_fields bytes
kind_fields m heap id (kind.LegacyString q) parts = text_fields m.detail coding.Ascii q
kind_fields m heap id (kind.LegacyLine q) parts = text_fields m.detail coding.StringEscape (inner q)
kind_fields m heap id (kind.Text q) parts = text_fields m.detail coding.AnyUtf8 q
kind_fields m heap id (kind.TextLine q) parts = text_fields m.detail coding.RawEscape q
kind_fields m heap id (kind.Bytes q) parts = payload_value m.detail q
kind_fields m heap id (kind.ByteArray q) parts = payload_value m.detail q
kind_fields m heap id (kind.Global names) parts = names_fields (codes "object") m (Some id) (global_pair names.first names.second)
kind_fields m heap id kind.StackGlobal parts = names_fields (codes "object") m (Some id) (stack_pair heap parts)
kind_fields m heap id (kind.Ext n) parts = code_fields n
kind_fields m heap id _ parts = id_fields (codes "object") id

unfoldable pub kind_json : Naming → List Object → ℕ → Kind → List ℕ → Json
kind_json m heap id k parts = line_object (kind_word k) (kind_fields m heap id k parts)

-- an object that is not there
unfoldable pub id_json : ℕ → Json
id_json id = line_object (codes "object") (id_fields (codes "object") id)

unfoldable pub brief_json : Naming → List Object → ℕ → Json
brief_json m heap id = option_map_or (λ (o : Object). kind_json m heap id o.kind o.parts) (slice_get heap id) (id_json id)

-- ---- objects in a row

unfoldable pub briefs_json : Naming → List Object → List ℕ → Json
briefs_json m heap ids = array (items_of (map (brief_json m heap) ids))

-- how an array is put together: its objects, and one after another
unfoldable pub briefs_text : Naming → List Object → List ℕ → List ℕ
briefs_text m heap ids = items_text (items_of (map (brief_json m heap) ids))

unfoldable pub next_brief : Naming → List Object → ℕ → List ℕ
next_brief m heap id = codes "," ⧺ value_text (brief_json m heap id)

-- ---- operands

unfoldable pub all_parts : Operand → Naming → List Object → List ℕ → List Field
all_parts w m heap ids = field (operand_name w) (briefs_json m heap ids)

-- how many parts were cut off, if any
unfoldable pub parts_left : Operand → ℕ → List Field
parts_left w n = if n == 0 then [] else field (operand_more w) (whole n)

unfoldable pub first_parts : Operand → Naming → List Object → List ℕ → List Field
first_parts w m heap ids = all_parts w m heap (take most_objects ids) ⊕ parts_left w (length ids - most_objects)

unfoldable pub shown_parts : Detail → Operand → Naming → List Object → List ℕ → List Field
shown_parts detail.Cut w m heap ids = first_parts w m heap ids
shown_parts detail.Full w m heap ids = all_parts w m heap ids

-- objects as an operand: an array
unfoldable pub parts_fields : Operand → Naming → List Object → List ℕ → List Field
parts_fields w m heap ids = shown_parts m.detail w m heap ids

unfoldable pub one_field : Operand → Naming → List Object → ℕ → Kind → List ℕ → List Field
one_field w m heap id k parts = field (operand_name w) (kind_json m heap id k parts)

-- of a tuple its parts, of any other object what it is in brief
unfoldable pub operand_kind : Operand → Naming → List Object → ℕ → Kind → List ℕ → List Field
operand_kind w m heap id kind.Tuple parts = parts_fields w m heap parts
operand_kind w m heap id k parts = one_field w m heap id k parts

unfoldable pub no_operand : Operand → ℕ → List Field
no_operand w id = field (operand_name w) (id_json id)

unfoldable pub operand_fields : Operand → Naming → List Object → ℕ → List Field
operand_fields w m heap id = option_map_or (λ (o : Object). operand_kind w m heap id o.kind o.parts) (slice_get heap id) (no_operand w id)
