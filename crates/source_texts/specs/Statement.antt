-- The statements of a pickle's source, from the objects as they are when it is read. An object without a name is never changed after it was
-- used, so that it is what it was then.
-- Source: own.
use Rattle.std.specs.Prelude.{ℕ, nat_le, if◌then◌else◌, Bool, false, List, [], drop, take, slice_get, codes, decimal, Option, Some, None}
use Rattle.std.specs.Option.{option_map_or}
use Rattle.pickle_io.specs.Text.{◌⧺◌}
use Rattle.pickle_io.specs.Device.{each}
use Rattle.pickle_names.specs.declared.coding.Coding.{Coding}
use Rattle.pickle_ops.specs.declared.kind.Kind.{Kind}
use Rattle.pickle_ops.specs.declared.row.Filling.{Filling}
use Rattle.pickle_ops.specs.declared.row.Filling.TheVariants as filling
use Rattle.pickle_ops.specs.declared.object.Change.{Change}
use Rattle.pickle_ops.specs.declared.object.Change.TheVariants as change
use Rattle.pickle_ops.specs.Object.{Object}
use Rattle.pickle_calls.specs.declared.event.Event.{Event}
use Rattle.pickle_calls.specs.declared.event.Event.TheVariants as event
use Rattle.pickle_source.specs.declared.fact.Fact.{Fact}
use Rattle.pickle_source.specs.declared.act.Act.{Act}
use Rattle.pickle_source.specs.declared.act.What.{What}
use Rattle.pickle_source.specs.declared.act.What.TheVariants as what
use Rattle.pickle_source.specs.Fact.{fact_at, is_named}
use Rattle.pickle_source.specs.Act.{changes_at}
use Rattle.pickle_machine.specs.State.{State, stack_of}
use Rattle.pickle_text.specs.declared.closing.Closing.{Closing}
use Rattle.pickle_text.specs.declared.closing.Closing.TheVariants as closing
use Rattle.pickle_text.specs.Closing.{closing_line}
use Rattle.source_texts.specs.Held.{held_text, changes_text, then_part}
use Rattle.source_texts.specs.Reach.{comment, assignment, made_text}
use Rattle.source_texts.specs.Expression.{expression}

-- the end of a statement: the offset of an opcode that reaches out of the pickle, or nothing
unfoldable pub ending : Option ℕ → List ℕ
ending (Some offset) = comment offset
ending None = codes "\n"

abbrev pub named_at : List Object → List Fact → ℕ → Bool
named_at heap facts id = option_map_or (λ (o : Object). is_named o.kind (fact_at facts id)) (slice_get heap id) false

-- ---- an object gets its name

-- `_3 = []`: as it was made
unfoldable pub given_text : (Kind → List ℕ) → (ℕ → List ℕ) → ℕ → Object → List ℕ
given_text value say id o = assignment id ⧺ held_text value say o.kind o.parts [] ⧺ codes "\n"

abbrev pub object_lines : (Kind → List ℕ) → List Fact → (ℕ → List ℕ) → ℕ → Object → List ℕ
object_lines value facts say id o = if is_named o.kind (fact_at facts id) then given_text value say id o else []

unfoldable pub made_lines : (Kind → List ℕ) → List Object → List Fact → (ℕ → List ℕ) → ℕ → List ℕ
made_lines value heap facts say id = option_map_or (object_lines value facts say id) (slice_get heap id) []

-- ---- an object is filled

-- `_3[key] = value`
unfoldable pub set_words : (ℕ → List ℕ) → ℕ → ℕ → ℕ → List ℕ
set_words say id key value = say id ⧺ codes "[" ⧺ say key ⧺ codes "] = " ⧺ say value

unfoldable pub set_line : (ℕ → List ℕ) → Option ℕ → ℕ → Change → List ℕ
set_line say offset id (change.SetItem key value) = set_words say id key value ⧺ ending offset
set_line say offset id (change.Append item) = []
set_line say offset id (change.Add item) = []
set_line say offset id (change.Build item) = []

-- `_3.extend([1, 2])`
unfoldable pub method_words : (ℕ → List ℕ) → List ℕ → ℕ → List Change → List ℕ
method_words say method id changes = say id ⧺ method ⧺ changes_text say changes ⧺ codes "])\n"

abbrev pub fill_by : (ℕ → List ℕ) → ℕ → List Change → Option Change → List ℕ
fill_by say id changes (Some (change.Append item)) = method_words say (codes ".extend([") id changes
fill_by say id changes (Some (change.Add item)) = method_words say (codes ".update([") id changes
fill_by say id changes (Some (change.SetItem key value)) = each (set_line say None id) changes
fill_by say id changes (Some (change.Build item)) = each (set_line say None id) changes
fill_by say id changes None = each (set_line say None id) changes

-- the changes of one step are of one kind
unfoldable pub fill_lines : (ℕ → List ℕ) → ℕ → List Change → List ℕ
fill_lines say id changes = fill_by say id changes (slice_get changes 0)

abbrev pub changes_between : List Object → ℕ → ℕ → ℕ → List Change
changes_between heap id first count = take count (drop first (changes_at heap id))

unfoldable pub filled_text : List Object → List Fact → (ℕ → List ℕ) → ℕ → ℕ → ℕ → List ℕ
filled_text heap facts say first count id = if named_at heap facts id then fill_lines say id (changes_between heap id first count) else []

-- ---- what reaches out

-- `set_state(_2, {'a': 1})  # 23`
unfoldable pub state_text : (ℕ → List ℕ) → ℕ → ℕ → ℕ → List ℕ
state_text say offset value target = codes "set_state(" ⧺ say target ⧺ codes ", " ⧺ say value ⧺ (codes ")" ⧺ comment offset)

-- `extend(_2, [1, 2])  # 23`
unfoldable pub into_text : (ℕ → List ℕ) → List ℕ → ℕ → ℕ → List Change → List ℕ
into_text say word offset id changes = word ⧺ say id ⧺ codes ", [" ⧺ changes_text say changes ⧺ (codes "])" ⧺ comment offset)

unfoldable pub reached_fill : (ℕ → List ℕ) → ℕ → Filling → ℕ → List Change → List ℕ
reached_fill say offset filling.Append id changes = into_text say (codes "extend(") offset id changes
reached_fill say offset filling.SetItem id changes = each (set_line say (Some offset) id) changes
reached_fill say offset filling.Add id changes = into_text say (codes "add_items(") offset id changes
reached_fill say offset filling.Build id changes = []

unfoldable pub reached_object : (Coding → List ℕ → List ℕ) → (List ℕ → Bool) → (List ℕ → Bool) → List Object → List Fact → (ℕ → List ℕ) → ℕ → ℕ → ℕ → List ℕ
reached_object text modules names heap facts say offset protocol id =
    option_map_or (made_text text modules names heap facts say offset protocol id) (slice_get heap id) []

unfoldable pub reach_text : (Coding → List ℕ → List ℕ) → (List ℕ → Bool) → (List ℕ → Bool) → List Object → List Fact → (ℕ → List ℕ) → Act → Event → List ℕ
reach_text text modules names heap facts say a (event.Made id) = reached_object text modules names heap facts say a.offset a.protocol id
reach_text text modules names heap facts say a (event.State value target) = state_text say a.offset value target
reach_text text modules names heap facts say a (event.Filled f count id) = reached_fill say a.offset f id (changes_between heap id a.first count)

-- ---- results

-- `result`, and of several pickles `result_2`
unfoldable pub result_name : ℕ → List ℕ
result_name n = if nat_le n 1 then [] else codes "_" ⧺ decimal n

unfoldable pub result_text : (ℕ → List ℕ) → ℕ → ℕ → List ℕ
result_text say n id = codes "result" ⧺ result_name n ⧺ codes " = " ⧺ say id ⧺ codes "\n"

-- ---- all statements

abbrev pub by_what : (Kind → List ℕ) → (Coding → List ℕ → List ℕ) → (List ℕ → Bool) → (List ℕ → Bool) → List Object → List Fact → (ℕ → List ℕ) → Act → What → List ℕ
by_what value text modules names heap facts say a (what.Reached e) = reach_text text modules names heap facts say a e
by_what value text modules names heap facts say a (what.Made id) = made_lines value heap facts say id
by_what value text modules names heap facts say a (what.Filled id count) = filled_text heap facts say a.first count id
by_what value text modules names heap facts say a (what.Result id) = result_text say a.first id

unfoldable pub act_text : (Kind → List ℕ) → (Coding → List ℕ → List ℕ) → (List ℕ → Bool) → (List ℕ → Bool) → List Object → List Fact → (ℕ → List ℕ) → Act → List ℕ
act_text value text modules names heap facts say a = by_what value text modules names heap facts say a a.what

-- ---- where reading ends before a STOP

unfoldable pub stack_front : List ℕ
stack_front = codes "stack = ["

-- what is on the stack then, from the lowest object on; marks are not shown
unfoldable pub stack_text : (ℕ → List ℕ) → List ℕ → List ℕ
stack_text say ids = stack_front ⧺ each (then_part say) ids ⧺ codes "]\n"

-- why reading ends there, as a comment, and the stack
unfoldable pub cut_text : (ℕ → List ℕ) → Closing → List ℕ → List ℕ
cut_text say c ids = codes "# " ⧺ closing_line c ⧺ stack_text say ids

unfoldable pub end_text : (ℕ → List ℕ) → Closing → List ℕ → List ℕ
end_text say closing.Stopped ids = []
end_text say c ids = cut_text say c ids

-- ---- the source

unfoldable pub lines_text : (Kind → List ℕ) → (Coding → List ℕ → List ℕ) → (List ℕ → Bool) → (List ℕ → Bool) → State → List Fact → (ℕ → List ℕ) → List Act → Closing → List ℕ
lines_text value text modules names s facts say acts c = each (act_text value text modules names s.heap facts say) acts ⧺ end_text say c (stack_of s)

-- `value` spells values, `text` texts, `modules` and `names` say what is the name of a module and a name
unfoldable pub source_text : (Kind → List ℕ) → (Coding → List ℕ → List ℕ) → (List ℕ → Bool) → (List ℕ → Bool) → State → List Fact → List Act → Closing → List ℕ
source_text value text modules names s facts acts c = lines_text value text modules names s facts (expression value names s.heap facts) acts c
