-- The line of an event, by the objects after its step.
-- Source: which events there are `Event` of `pickle_calls` says; kinds and fields are own.
use Rattle.std.specs.Prelude.{ℕ, ℤ, List, [], drop, slice_get, codes, Option, Some, None}
use Rattle.std.specs.Option.{option_map_or}
use Rattle.pickle_io.specs.Text.{◌⧺◌}
use Rattle.json_lines.specs.Line.{Field, field, ◌⊕◌, whole, integer, line, begun, fields_text}
use Rattle.pickle_names.specs.declared.coding.Coding.TheVariants as coding
use Rattle.pickle_ops.specs.declared.kind.Kind.{Kind}
use Rattle.pickle_ops.specs.declared.kind.Kind.TheVariants as kind
use Rattle.pickle_ops.specs.declared.row.Filling.{Filling}
use Rattle.pickle_ops.specs.declared.row.Filling.TheVariants as filling
use Rattle.pickle_ops.specs.Object.{Object}
use Rattle.pickle_calls.specs.declared.event.Event.{Event}
use Rattle.pickle_calls.specs.declared.event.Event.TheVariants as event
use Rattle.line_buffer.specs.Line.{line_text}
use Rattle.pickle_calls.specs.CallsLine.{event_line as event_text}
use Rattle.pickle_calls.specs.Event.{part}
use Rattle.pickle_calls.specs.declared.naming.Naming.{Naming}
use Rattle.pickle_calls.specs.Naming.{global_pair, inst_pair, stack_pair}
use Rattle.calls_json.specs.declared.said.Said.TheVariants as said
use Rattle.calls_json.specs.declared.said.Operand.TheVariants as operand
use Rattle.calls_json.specs.TextFields.{whole_fields}
use Rattle.calls_json.specs.NameFields.{id_fields, names_fields}
use Rattle.calls_json.specs.ValueFields.{parts_fields, operand_fields}
use Rattle.pickle_json.specs.ShownFields.{shown_fields}

-- ---- what is called

-- the code of an extension
unfoldable pub extension_fields : ℤ → List Field
extension_fields n = field (codes "extension") (integer n)

-- what is imported by its module and its name, or by its code; any other object by its number
unfoldable pub callee_kind : Naming → List Object → ℕ → Kind → List ℕ → List Field
callee_kind m heap id (kind.Global names) parts = names_fields (codes "callee") m (Some id) (global_pair names.first names.second)
callee_kind m heap id kind.StackGlobal parts = names_fields (codes "callee") m (Some id) (stack_pair heap parts)
callee_kind m heap id (kind.Ext n) parts = extension_fields n
callee_kind m heap id _ parts = id_fields (codes "callee") id

unfoldable pub callee_fields : Naming → List Object → ℕ → List Field
callee_fields m heap id = option_map_or (λ (o : Object). callee_kind m heap id o.kind o.parts) (slice_get heap id) (id_fields (codes "callee") id)

-- ---- what was made

-- what made an object; no other kind of object has a line
unfoldable pub made_word : Kind → List ℕ
made_word (kind.Global names) = codes "import"
made_word kind.StackGlobal = codes "import"
made_word (kind.Ext n) = codes "import"
made_word (kind.Inst names) = codes "inst"
made_word kind.Call = codes "call"
made_word kind.New = codes "new"
made_word kind.NewEx = codes "new"
made_word kind.Obj = codes "call"
made_word (kind.PersistentLine q) = codes "persistent"
made_word kind.Persistent = codes "persistent"
made_word (kind.Buffer n) = codes "buffer"
made_word kind.ReadOnly = codes "readonly"
made_word _ = codes "made"

-- a member of a module that is imported and called
unfoldable pub inst_fields : Naming → List Object → List ℕ → List ℕ → List ℕ → List Field
inst_fields m heap first second parts =
    names_fields (codes "callee") m None (inst_pair first second) ⊕ parts_fields operand.Args m heap parts

-- what is called, and the arguments
unfoldable pub call_fields : Naming → List Object → List ℕ → List Field
call_fields m heap parts = callee_fields m heap (part 0 parts) ⊕ operand_fields operand.Args m heap (part 1 parts)

-- the same with arguments that have names
unfoldable pub call_with_fields : Naming → List Object → List ℕ → List Field
call_with_fields m heap parts = call_fields m heap parts ⊕ operand_fields operand.Keywords m heap (part 2 parts)

-- the class, and the arguments after it
unfoldable pub obj_fields : Naming → List Object → List ℕ → List Field
obj_fields m heap parts = callee_fields m heap (part 0 parts) ⊕ parts_fields operand.Args m heap (drop 1 parts)

unfoldable pub buffer_fields : ℕ → List Field
buffer_fields n = field (codes "number") (whole n)

unfoldable pub made_fields : Naming → List Object → Kind → List ℕ → List Field
made_fields m heap (kind.Global names) parts = names_fields (codes "callee") m None (global_pair names.first names.second)
made_fields m heap kind.StackGlobal parts = names_fields (codes "callee") m None (stack_pair heap parts)
made_fields m heap (kind.Ext n) parts = extension_fields n
made_fields m heap (kind.Inst names) parts = inst_fields m heap names.first names.second parts
made_fields m heap kind.Call parts = call_fields m heap parts
made_fields m heap kind.New parts = call_fields m heap parts
made_fields m heap kind.NewEx parts = call_with_fields m heap parts
made_fields m heap kind.Obj parts = obj_fields m heap parts
made_fields m heap (kind.PersistentLine q) parts = whole_fields said.Line coding.Ascii q
made_fields m heap kind.Persistent parts = operand_fields operand.Id m heap (part 0 parts)
made_fields m heap (kind.Buffer n) parts = buffer_fields n
made_fields m heap kind.ReadOnly parts = id_fields (codes "of") (part 0 parts)
made_fields m heap _ parts = []

-- where it is, what is said of it, the object, which was made or was changed, and the line for people
unfoldable pub around : ℕ → List Field → ℕ → Option (List ℕ) → List Field
around offset fs id shown = field (codes "offset") (whole offset) ⊕ fs ⊕ id_fields (codes "object") id ⊕ shown_fields shown

unfoldable pub made_line : ℕ → Option (List ℕ) → Naming → List Object → ℕ → Kind → List ℕ → List ℕ
made_line offset shown m heap id k parts = line (made_word k) (around offset (made_fields m heap k parts) id shown)

-- an object that is not there
unfoldable pub absent_line : ℕ → Option (List ℕ) → ℕ → List ℕ
absent_line offset shown id = line (codes "made") (around offset [] id shown)

unfoldable pub made_at : ℕ → Option (List ℕ) → Naming → List Object → ℕ → List ℕ
made_at offset shown m heap id =
    option_map_or (λ (o : Object). made_line offset shown m heap id o.kind o.parts) (slice_get heap id) (absent_line offset shown id)

-- ---- what was changed

unfoldable pub state_line : ℕ → Option (List ℕ) → Naming → List Object → ℕ → ℕ → List ℕ
state_line offset shown m heap value target = line (codes "state") (around offset (operand_fields operand.State m heap value) target shown)

-- what goes into an object. BUILD sets a state and fills nothing
unfoldable pub fill_word : Filling → List ℕ
fill_word filling.Append = codes "append"
fill_word filling.SetItem = codes "set"
fill_word filling.Add = codes "add"
fill_word filling.Build = codes "build"

unfoldable pub count_fields : ℕ → List Field
count_fields count = field (codes "count") (whole count)

unfoldable pub filled_line : ℕ → Option (List ℕ) → Filling → ℕ → ℕ → List ℕ
filled_line offset shown f count target = line (fill_word f) (around offset (count_fields count) target shown)

-- ---- lines

-- with the line for people, where that is shown
unfoldable pub event_with : ℕ → Option (List ℕ) → Naming → List Object → Event → List ℕ
event_with offset shown m heap (event.Made id) = made_at offset shown m heap id
event_with offset shown m heap (event.State value target) = state_line offset shown m heap value target
event_with offset shown m heap (event.Filled f count target) = filled_line offset shown f count target

unfoldable pub event_line : ℕ → Naming → List Object → Event → List ℕ
event_line offset m heap e = event_with offset (line_text (event_text offset m heap e)) m heap e

-- ---- how a line is put together: up to where the item is, and from the object on

unfoldable pub begun_at : List ℕ → ℕ → List ℕ
begun_at kind offset = begun kind ⧺ fields_text (field (codes "offset") (whole offset))

unfoldable pub ended_with : ℕ → Option (List ℕ) → List ℕ
ended_with id shown = fields_text (id_fields (codes "object") id) ⧺ fields_text (shown_fields shown) ⧺ codes "}\n"

-- ---- the line of a step

-- a step without an event has no line
abbrev pub line_of : ℕ → Naming → List Object → Option Event → List ℕ
line_of offset m heap None = []
line_of offset m heap (Some e) = event_line offset m heap e
