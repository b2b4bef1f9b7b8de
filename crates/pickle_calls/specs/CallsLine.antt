-- The lines: one for each event.
-- Source: own.
use Rattle.std.specs.Prelude.{ℕ, ◌==◌, if◌then◌else◌, Bool, true, false, List, [], drop, slice_get, codes, decimal, Option, Some, None}
use Rattle.std.specs.Option.{option_map_or}
use Rattle.std.specs.Fmt.{signed_decimal}
use Rattle.pickle_io.specs.Text.{◌⧺◌}
use Rattle.pickle_names.specs.declared.coding.Coding.TheVariants as coding
use Rattle.pickle_names.specs.Value.{whole_text}
use Rattle.pickle_ops.specs.declared.kind.Kind.{Kind}
use Rattle.pickle_ops.specs.declared.kind.Kind.TheVariants as kind
use Rattle.pickle_ops.specs.declared.row.Filling.{Filling}
use Rattle.pickle_ops.specs.declared.row.Filling.TheVariants as filling
use Rattle.pickle_ops.specs.Object.{Object}
use Rattle.pickle_text.specs.Column.{right_aligned, newline}
use Rattle.pickle_calls.specs.declared.end.Ending.{Ending}
use Rattle.pickle_calls.specs.declared.end.Ending.TheVariants as ending
use Rattle.pickle_text.specs.Words.{id_text}
use Rattle.pickle_calls.specs.Begins.{begins_text}
use Rattle.pickle_text.specs.Closing.{closing_line, closing_status, kept_line}
use Rattle.pickle_calls.specs.declared.event.Event.{Event}
use Rattle.pickle_calls.specs.declared.event.Event.TheVariants as event
use Rattle.pickle_calls.specs.Event.{part, object_is}
use Rattle.pickle_calls.specs.declared.naming.Naming.{Naming}
use Rattle.pickle_calls.specs.Naming.{global_pair, inst_pair, stack_pair, names_text}
use Rattle.pickle_calls.specs.Brief.{name_text, briefs_text, value_text}

-- ---- what was made

unfoldable pub inst_text : Naming → List Object → List ℕ → List ℕ → List ℕ → List ℕ
inst_text m heap first second parts = codes "inst " ⧺ names_text m None (inst_pair first second) ⧺ codes " " ⧺ briefs_text m heap parts

-- a call or a new instance: what is called, and the arguments
unfoldable pub call_text : Naming → List ℕ → List Object → List ℕ → List ℕ
call_text m keyword heap parts = keyword ⧺ name_text m heap (part 0 parts) ⧺ codes " " ⧺ value_text m heap (part 1 parts)

-- the same with arguments that have names
unfoldable pub call_with_text : Naming → List Object → List ℕ → List ℕ
call_with_text m heap parts = call_text m (codes "new ") heap parts ⧺ codes " " ⧺ value_text m heap (part 2 parts)

-- the class, and the arguments after it
unfoldable pub obj_text : Naming → List Object → List ℕ → List ℕ
obj_text m heap parts = codes "call " ⧺ name_text m heap (part 0 parts) ⧺ codes " " ⧺ briefs_text m heap (drop 1 parts)

-- by its kind and its parts; other kinds have no line
unfoldable pub made_words : Naming → List Object → Kind → List ℕ → List ℕ
made_words m heap (kind.Global names) parts = codes "import " ⧺ names_text m None (global_pair names.first names.second)
made_words m heap kind.StackGlobal parts = codes "import " ⧺ names_text m None (stack_pair heap parts)
made_words m heap (kind.Ext n) parts = codes "import ext " ⧺ signed_decimal n
made_words m heap (kind.Inst names) parts = inst_text m heap names.first names.second parts
made_words m heap kind.Call parts = call_text m (codes "call ") heap parts
made_words m heap kind.New parts = call_text m (codes "new ") heap parts
made_words m heap kind.NewEx parts = call_with_text m heap parts
made_words m heap kind.Obj parts = obj_text m heap parts
made_words m heap (kind.PersistentLine q) parts = codes "persistent " ⧺ whole_text coding.Ascii q
made_words m heap kind.Persistent parts = codes "persistent " ⧺ value_text m heap (part 0 parts)
made_words m heap (kind.Buffer n) parts = codes "buffer " ⧺ decimal n
made_words m heap kind.ReadOnly parts = codes "readonly " ⧺ id_text (part 0 parts)
made_words m heap _ parts = []

unfoldable pub made_text : Naming → List Object → ℕ → Object → List ℕ
made_text m heap id o = made_words m heap o.kind o.parts ⧺ codes " as " ⧺ id_text id

abbrev pub made_at : Naming → List Object → ℕ → List ℕ
made_at m heap id = option_map_or (made_text m heap id) (slice_get heap id) []

-- ---- what was changed

unfoldable pub state_text : Naming → List Object → ℕ → ℕ → List ℕ
state_text m heap value target = codes "state " ⧺ value_text m heap value ⧺ codes " to " ⧺ id_text target

-- the keyword of what goes into an object, and the word before that object. BUILD sets a state and fills nothing
unfoldable pub fill_keyword : Filling → List ℕ
fill_keyword filling.Append = codes "append "
fill_keyword filling.SetItem = codes "set "
fill_keyword filling.Add = codes "add "
fill_keyword filling.Build = []

unfoldable pub fill_link : Filling → List ℕ
fill_link filling.Append = codes " to "
fill_link filling.SetItem = codes " in "
fill_link filling.Add = codes " to "
fill_link filling.Build = []

-- how many went into which object
unfoldable pub filled_text : Filling → ℕ → ℕ → List ℕ
filled_text f count target = fill_keyword f ⧺ decimal count ⧺ fill_link f ⧺ id_text target

-- ---- lines

-- an event, by the objects after the step
unfoldable pub event_text : Naming → List Object → Event → List ℕ
event_text m heap (event.Made id) = made_at m heap id
event_text m heap (event.State value target) = state_text m heap value target
event_text m heap (event.Filled f count target) = filled_text f count target

-- the line of an event whose item is at this offset
unfoldable pub event_line : ℕ → Naming → List Object → Event → List ℕ
event_line offset m heap e = right_aligned 5 (decimal offset) ⧺ codes ": " ⧺ event_text m heap e ⧺ newline

-- a step without an event has no line
abbrev pub line_of : ℕ → Naming → List Object → Option Event → List ℕ
line_of offset m heap None = []
line_of offset m heap (Some e) = event_line offset m heap e

-- ---- counts

-- what is imported; INST imports and calls
abbrev pub is_import : Kind → Bool
is_import (kind.Global names) = true
is_import kind.StackGlobal = true
is_import (kind.Ext n) = true
is_import (kind.Inst names) = true
is_import _ = false

-- what a call makes
abbrev pub is_call : Kind → Bool
is_call kind.Call = true
is_call kind.New = true
is_call kind.NewEx = true
is_call (kind.Inst names) = true
is_call kind.Obj = true
is_call _ = false

abbrev pub one_if : Bool → ℕ
one_if true = 1
one_if false = 0

-- how many imports a step is
abbrev pub imports_of : List Object → Option Event → ℕ
imports_of heap (Some (event.Made id)) = one_if (object_is is_import heap id)
imports_of heap (Some (event.State value target)) = 0
imports_of heap (Some (event.Filled f count target)) = 0
imports_of heap None = 0

-- how many calls it is: what changes an object calls its methods
abbrev pub calls_of : List Object → Option Event → ℕ
calls_of heap (Some (event.Made id)) = one_if (object_is is_call heap id)
calls_of heap (Some (event.State value target)) = 1
calls_of heap (Some (event.Filled f count target)) = 1
calls_of heap None = 0

-- ---- the last lines

unfoldable pub totals_line : ℕ → ℕ → List ℕ
totals_line imports calls = decimal imports ⧺ codes " imports, " ⧺ decimal calls ⧺ codes " calls" ⧺ newline

-- of several pickles STOP is inside a frame that goes on: what is read behind it is not the same for all loaders. This is where
-- reading ends
unfoldable pub unsure_words : List ℕ
unsure_words = codes "unsure: U1 frame goes on behind STOP at "

unfoldable pub unsure_line : ℕ → List ℕ
unsure_line offset = unsure_words ⧺ decimal offset ⧺ newline

-- how many bytes STOP left, and how the reading ended
unfoldable pub ending_lines : Ending → List ℕ
ending_lines (ending.Closed kept c) = kept_line kept ⧺ closing_line c
ending_lines (ending.Unsure offset) = unsure_line offset

-- 0 where nothing of that is said
abbrev pub ending_status : Ending → ℕ
ending_status (ending.Closed kept c) = if kept == 0 then closing_status c else 1
ending_status (ending.Unsure offset) = 1

-- what the bytes begin like, how many imports and calls there are, and how the reading ended
unfoldable pub calls_end_text : List ℕ → ℕ → ℕ → Ending → List ℕ
calls_end_text bytes imports calls e = begins_text bytes ⧺ totals_line imports calls ⧺ ending_lines e
