-- The lines of what is shown of a machine: its stack, its memo and its objects.
-- Source: own. An object has the fields of its own line.
use Rattle.std.specs.Prelude.{ℕ, List, [], codes, slice_get}
use Rattle.std.specs.Option.{option_map_or}
use Rattle.json.specs.Json.{Json}
use Rattle.json_lines.specs.Line.{Field, field, ◌⊕◌, whole, line}
use Rattle.pickle_ops.specs.Object.{Object}
use Rattle.pickle_machine.specs.State.{State, stack_of, marks_of}
use Rattle.objects_json.specs.ObjectFields.{object_fields, object_line}
use Rattle.debug_json.specs.Array.{object_json, array_json}

-- ---- the stack

-- an object, by its number
unfoldable pub id_json : ℕ → ℕ → Json
id_json i id = whole id

-- the item that set a mark, and how many objects are below the mark
unfoldable pub mark_fields : (ℕ × ℕ) → List Field
mark_fields m = field (codes "item") (whole m.0) ⊕ field (codes "below") (whole m.1)

unfoldable pub mark_json : ℕ → (ℕ × ℕ) → Json
mark_json i m = object_json (codes "mark") (mark_fields m)

-- the objects from the bottom through all sections
unfoldable pub ids_field : State → List Field
ids_field t = field (codes "stack") (array_json id_json (stack_of t))

-- the marks, the lowest first
unfoldable pub marks_field : State → List Field
marks_field t = field (codes "marks") (array_json mark_json (marks_of t.marked))

abbrev pub stack_fields : State → List Field
stack_fields t = ids_field t ⊕ marks_field t

unfoldable pub stack_line : State → List ℕ
stack_line t = line (codes "stack") (stack_fields t)

-- ---- the memo

-- a key, and the object that the memo has under it
unfoldable pub entry_fields : (ℕ × ℕ) → List Field
entry_fields e = field (codes "memo") (whole e.0) ⊕ field (codes "object") (whole e.1)

unfoldable pub entry_value : (ℕ × ℕ) → Json
entry_value e = object_json (codes "entry") (entry_fields e)

abbrev pub entry_json : ℕ → (ℕ × ℕ) → Json
entry_json i e = entry_value e

-- the entries, by rising key as the memo has them
unfoldable pub memo_fields : List (ℕ × ℕ) → List Field
memo_fields entries = field (codes "entries") (array_json entry_json entries)

unfoldable pub memo_line : List (ℕ × ℕ) → List ℕ
memo_line entries = line (codes "memo") (memo_fields entries)

-- ---- objects

-- an object, whose number is its place in the heap
unfoldable pub heap_json : ℕ → Object → Json
heap_json id o = object_json (codes "object") (object_fields id o)

unfoldable pub heap_fields : List Object → List Field
heap_fields heap = field (codes "objects") (array_json heap_json heap)

unfoldable pub heap_line : List Object → List ℕ
heap_line heap = line (codes "objects") (heap_fields heap)

-- one object, where there is one of this number: the line that it has among those of all objects. What it contains is named by number
unfoldable pub show_line : List Object → ℕ → List ℕ
show_line heap n = option_map_or (object_line n) (slice_get heap n) []
