-- The line of an object: its fields.
-- Source: own. The words of kinds are those of the text for people; arguments have the fields that they have in the line of their opcode.
use Rattle.std.specs.Prelude.{ℕ, List, [], ◌∷◌, codes, map}
use Rattle.json.specs.Json.{Json, string, array}
use Rattle.json.specs.Value.{items_of}
use Rattle.json_lines.specs.Json.{value_text, items_text}
use Rattle.json_lines.specs.Line.{Field, field, ◌⊕◌, whole, numbers_json, line_object, line}
use Rattle.pickle_io.specs.Text.{◌⧺◌}
use Rattle.pickle_ops.specs.declared.kind.Kind.{Kind}
use Rattle.pickle_ops.specs.declared.kind.Kind.TheVariants as kind
use Rattle.pickle_ops.specs.declared.object.Change.{Change}
use Rattle.pickle_ops.specs.declared.object.Change.TheVariants as change
use Rattle.pickle_ops.specs.Object.{Object}
use Rattle.pickle_json.specs.ItemFields.{integer_fields, payload_fields, double_fields, long_fields, names_fields}

-- ---- kinds

unfoldable pub kind_word : Kind → List ℕ
kind_word kind.None = codes "none"
kind_word kind.True = codes "true"
kind_word kind.False = codes "false"
kind_word (kind.Int n) = codes "int"
kind_word (kind.Long bytes) = codes "int"
kind_word (kind.IntLine q) = codes "int-line"
kind_word (kind.LongLine q) = codes "long-line"
kind_word (kind.FloatLine q) = codes "float-line"
kind_word (kind.Float bytes) = codes "float"
kind_word (kind.LegacyString q) = codes "string"
kind_word (kind.LegacyLine q) = codes "string-line"
kind_word (kind.Text q) = codes "text"
kind_word (kind.TextLine q) = codes "text-line"
kind_word (kind.Bytes q) = codes "bytes"
kind_word (kind.ByteArray q) = codes "bytearray"
kind_word kind.Tuple = codes "tuple"
kind_word kind.List = codes "list"
kind_word kind.Set = codes "set"
kind_word kind.FrozenSet = codes "frozenset"
kind_word kind.Dict = codes "dict"
kind_word (kind.Global names) = codes "global"
kind_word kind.StackGlobal = codes "stack-global"
kind_word kind.Call = codes "call"
kind_word kind.New = codes "new"
kind_word kind.NewEx = codes "new-ex"
kind_word (kind.Inst names) = codes "inst"
kind_word kind.Obj = codes "obj"
kind_word (kind.PersistentLine q) = codes "persistent"
kind_word kind.Persistent = codes "persistent"
kind_word (kind.Ext n) = codes "ext"
kind_word (kind.Buffer n) = codes "buffer"
kind_word kind.ReadOnly = codes "readonly"

-- what its opcode gave it
unfoldable pub kind_fields : Kind → List Field
kind_fields (kind.Int n) = integer_fields n
kind_fields (kind.Long bytes) = long_fields bytes
kind_fields (kind.IntLine q) = payload_fields q
kind_fields (kind.LongLine q) = payload_fields q
kind_fields (kind.FloatLine q) = payload_fields q
kind_fields (kind.Float bytes) = double_fields bytes
kind_fields (kind.LegacyString q) = payload_fields q
kind_fields (kind.LegacyLine q) = payload_fields q
kind_fields (kind.Text q) = payload_fields q
kind_fields (kind.TextLine q) = payload_fields q
kind_fields (kind.Bytes q) = payload_fields q
kind_fields (kind.ByteArray q) = payload_fields q
kind_fields (kind.Global names) = names_fields names.first names.second
kind_fields (kind.Inst names) = names_fields names.first names.second
kind_fields (kind.PersistentLine q) = payload_fields q
kind_fields (kind.Ext n) = integer_fields n
kind_fields (kind.Buffer n) = field (codes "number") (whole n)
kind_fields _ = []

-- ---- parts and changes, which name objects by number

abbrev pub parts_fields : List ℕ → List Field
parts_fields [] = []
parts_fields (id ∷ ids) = field (codes "parts") (numbers_json (id ∷ ids))

-- what was put in
unfoldable pub value_fields : ℕ → List Field
value_fields id = field (codes "value") (whole id)

unfoldable pub pair_fields : ℕ → ℕ → List Field
pair_fields key value = field (codes "key") (whole key) ⊕ value_fields value

unfoldable pub change_word : Change → List ℕ
change_word (change.Append id) = codes "append"
change_word (change.SetItem key value) = codes "set"
change_word (change.Add id) = codes "add"
change_word (change.Build id) = codes "state"

unfoldable pub change_fields : Change → List Field
change_fields (change.Append id) = value_fields id
change_fields (change.SetItem key value) = pair_fields key value
change_fields (change.Add id) = value_fields id
change_fields (change.Build id) = value_fields id

unfoldable pub change_json : Change → Json
change_json c = line_object (change_word c) (change_fields c)

unfoldable pub changes_json : List Change → Json
changes_json cs = array (items_of (map change_json cs))

abbrev pub changes_fields : List Change → List Field
changes_fields [] = []
changes_fields (c ∷ cs) = field (codes "changes") (changes_json (c ∷ cs))

-- ---- objects

-- its number, and its kind
unfoldable pub head_fields : ℕ → Kind → List Field
head_fields id k = field (codes "object") (whole id) ⊕ field (codes "is") (string (kind_word k))

-- its parts, and the changes in the order in which they were made
unfoldable pub rest_fields : List ℕ → List Change → List Field
rest_fields parts changes = parts_fields parts ⊕ changes_fields changes

abbrev pub object_fields : ℕ → Object → List Field
object_fields id o = head_fields id o.kind ⊕ kind_fields o.kind ⊕ rest_fields o.parts o.changes

unfoldable pub object_line : ℕ → Object → List ℕ
object_line id o = line (codes "object") (object_fields id o)

-- ---- how an array of changes is put together: its changes, and one after another

unfoldable pub changes_text : List Change → List ℕ
changes_text cs = items_text (items_of (map change_json cs))

unfoldable pub next_change : Change → List ℕ
next_change c = codes "," ⧺ value_text (change_json c)
