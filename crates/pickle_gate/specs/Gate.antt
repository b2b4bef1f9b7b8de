-- Which pickles pass.
-- Source: own.
use Rattle.std.specs.Prelude.{◌≡◌, ℕ, zero, suc, ◌^◌, ◌<◌, nat_le, ◌==◌, ◌&&◌, ◌||◌, not, if◌then◌else◌, Bool, true, false, List, [], length, drop, slice_get, Option, Some, None}
use Rattle.std.specs.Option.{option_map_or}
use Rattle.std.specs.List.{list_all}
use Rattle.pickle_ops.specs.declared.form.Form.TheVariants as form
use Rattle.pickle_ops.specs.declared.kind.Kind.{Kind}
use Rattle.pickle_ops.specs.declared.kind.Kind.TheVariants as kind
use Rattle.pickle_ops.specs.Argument.{number_of}
use Rattle.pickle_ops.specs.Spelling.{Operation}
use Rattle.pickle_ops.specs.Object.{Object}
use Rattle.pickle_ops.specs.Kind.{is_opaque}
use Rattle.pickle_ops.specs.Row.{row_of}
use Rattle.pickle_doc.specs.Document.{Contents, ReadsAs}
use Rattle.pickle_doc.specs.Place.{ops_of, item_at}
use Rattle.pickle_machine.specs.State.{State, start}
use Rattle.pickle_machine.specs.Move.{fresh}
use Rattle.pickle_machine.specs.Run.{run}
use Rattle.pickle_calls.specs.declared.event.Event.{Event}
use Rattle.pickle_calls.specs.declared.event.Event.TheVariants as event
use Rattle.pickle_calls.specs.Event.{before_of, event_of}
use Rattle.pickle_calls.specs.CallsLine.{ending_status}
use Rattle.pickle_calls.specs.Calls.{or_here, calls_end}
use Rattle.pickle_form.specs.Run.{is_proto}
use Rattle.pickle_form.specs.Form.{first_other}
use Rattle.pickle_allow.specs.declared.list.Use.TheVariants as use_of
use Rattle.pickle_allow.specs.declared.list.Entry.{Entry}
use Rattle.pickle_allow.specs.Allow.{Source, is_in, may_find, may_use}
use Rattle.pickle_allow.specs.Source.{line_text, part_text, import_name, extension_word, persistent_word, buffer_word, source_at, callee_source, with_more}
use Rattle.pickle_allow.specs.Named.{arguments_of}
use Rattle.pickle_allow.specs.Arguments.{is_held, may_be_given, may_be_set}

-- the protocol that PROTO in front says, or 0
abbrev pub protocol_said : Option Operation → ℕ
protocol_said None = 0
protocol_said (Some o) = if is_proto o.opcode then number_of form.Uint1 o.arg else 0

abbrev pub protocol_of : Contents → ℕ
protocol_of d = protocol_said (item_at d 0)

-- ---- what objects come of

-- of each object that the first k items make
abbrev pub sources_behind : ℕ → List (Option Source) → Option State → List (Option Source)
sources_behind proto from None = from
sources_behind proto from (Some t) = with_more proto t.heap from (drop (length from) t.heap)

unfoldable pub sources : Contents → ℕ → List (Option Source)
sources d zero = []
sources d (suc k) = sources_behind (protocol_of d) (sources d k) (run (start d.many) (ops_of d) (suc k))

-- ---- objects that have their state

-- the event of an item, between the states before and behind it
abbrev pub event_on : Option Operation → Option State → Option State → Option Event
event_on (Some o) (Some s) (Some t) = event_of (row_of o) (before_of (fresh s)) t
event_on (Some o) (Some s) None = None
event_on (Some o) None t = None
event_on None s t = None

unfoldable pub event_at : Contents → ℕ → Option Event
event_at d k = event_on (item_at d k) (run (start d.many) (ops_of d) k) (run (start d.many) (ops_of d) (suc k))

-- the objects of a state, if it is reached, and those behind the first k items
abbrev pub heap_of : Option State → List Object
heap_of None = []
heap_of (Some t) = t.heap

unfoldable pub heap_at : Contents → ℕ → List Object
heap_at d k = heap_of (run (start d.many) (ops_of d) k)

-- what an object is made of: what is called, or the class of an instance
abbrev pub maker : Kind → List ℕ → Option ℕ
maker kind.Call parts = slice_get parts 0
maker kind.New parts = slice_get parts 0
maker kind.NewEx parts = slice_get parts 0
maker kind.Obj parts = slice_get parts 0
maker _ parts = None

-- what the object is made of that an event makes
abbrev pub maker_by : List Object → Option Event → Option ℕ
maker_by heap None = None
maker_by heap (Some (event.Made id)) = option_map_or (λ (o : Object). maker o.kind o.parts) (slice_get heap id) None
maker_by heap (Some (event.State value target)) = None
maker_by heap (Some (event.Filled how count target)) = None

abbrev pub part_is : (ℕ → Bool) → Option ℕ → Bool
part_is test None = false
part_is test (Some id) = test id

-- an event gives a state to the object of this number; or it makes the object of one that has its state
abbrev pub gives_state : List Object → (ℕ → Bool) → Option Event → ℕ → Bool
gives_state heap had None id = false
gives_state heap had (Some (event.Made n)) id = n == id && part_is had (maker_by heap (Some (event.Made n)))
gives_state heap had (Some (event.State value target)) id = target == id
gives_state heap had (Some (event.Filled how count target)) id = false

-- one of the first k items does
unfoldable pub has_state : Contents → ℕ → ℕ → Bool
has_state d zero id = false
has_state d (suc k) id = has_state d k id || gives_state (heap_at d (suc k)) (λ (i : ℕ). has_state d k i) (event_at d k) id

-- one of the first k items makes something of the object of this number
abbrev pub is_this : ℕ → ℕ → Bool
is_this id i = i == id

unfoldable pub has_made : Contents → ℕ → ℕ → Bool
has_made d zero id = false
has_made d (suc k) id = has_made d k id || part_is (is_this id) (maker_by (heap_at d (suc k)) (event_at d k))

-- an instance is made of what has its state
abbrev pub is_of_ready : (ℕ → Bool) → Kind → List ℕ → Bool
is_of_ready had kind.New parts = part_is had (slice_get parts 0)
is_of_ready had kind.NewEx parts = part_is had (slice_get parts 0)
is_of_ready had kind.Obj parts = part_is had (slice_get parts 0)
is_of_ready had _ parts = false

-- ---- objects that have attributes by a state

-- a state may name attributes: a dictionary does, or a pair, and what may be one
abbrev pub may_name : Kind → List ℕ → Bool
may_name kind.Tuple parts = length parts == 2
may_name kind.Dict parts = true
may_name k parts = is_opaque k

abbrev pub may_name_at : List Object → ℕ → Bool
may_name_at heap value = option_map_or (λ (o : Object). may_name o.kind o.parts) (slice_get heap value) false

-- an event gives such a state to the object of this number; or it makes the object of one that has such a state
abbrev pub names_by : List Object → (ℕ → Bool) → Option Event → ℕ → Bool
names_by heap named None id = false
names_by heap named (Some (event.Made n)) id = n == id && part_is named (maker_by heap (Some (event.Made n)))
names_by heap named (Some (event.State value target)) id = target == id && may_name_at heap value
names_by heap named (Some (event.Filled how count target)) id = false

-- one of the first k items does
unfoldable pub is_named : Contents → ℕ → ℕ → Bool
is_named d zero id = false
is_named d (suc k) id = is_named d k id || names_by (heap_at d (suc k)) (λ (i : ℕ). is_named d k i) (event_at d k) id

-- ---- what a state is

-- the most arguments of a call whose answer is a state
abbrev pub most_arguments : ℕ
most_arguments = 8

abbrev pub is_plain_at : List Object → ℕ → Bool
is_plain_at heap id = option_map_or (λ (o : Object). not (is_held o.kind)) (slice_get heap id) false

-- a call has a few arguments that hold nothing, so that what it makes holds no object of the pickle
abbrev pub are_plain : List Object → Option (List ℕ) → Bool
are_plain heap None = false
are_plain heap (Some ids) = nat_le (length ids) most_arguments && list_all (is_plain_at heap) ids

abbrev pub has_not : (ℕ → Bool) → ℕ → Bool
has_not named id = not (named id)

-- the halves of a pair have no attributes by a state of their own; what a call made may be a pair
abbrev pub halves_may : (ℕ → Bool) → List Object → Kind → List ℕ → Bool
halves_may named heap kind.Tuple parts = not (length parts == 2) || list_all (has_not named) parts
halves_may named heap kind.Call parts = are_plain heap (arguments_of heap kind.Call parts)
halves_may named heap kind.New parts = are_plain heap (arguments_of heap kind.New parts)
halves_may named heap kind.NewEx parts = false
halves_may named heap kind.Obj parts = are_plain heap (arguments_of heap kind.Obj parts)
halves_may named heap (kind.Inst names) parts = are_plain heap (arguments_of heap (kind.Inst names) parts)
halves_may named heap _ parts = true

abbrev pub halves_may_at : (ℕ → Bool) → List Object → ℕ → Bool
halves_may_at named heap value = option_map_or (λ (o : Object). halves_may named heap o.kind o.parts) (slice_get heap value) true

-- the unpickler in Python asks a state for `items`, and each half of a pair, where the object has no `__setstate__` (Lib/pickle.py, `load_build`). A state
-- of its own may have given it an attribute `items`
abbrev pub may_be_state : (ℕ → Bool) → List Object → ℕ → Bool
may_be_state named heap value = has_not named value && halves_may_at named heap value

-- ---- what is allowed

-- the making of an object: what is imported, asked for or called. INST, which no pickler of Python 3 writes, is not
abbrev pub may_make : List Entry → ℕ → List Object → List (Option Source) → Kind → List ℕ → Bool
may_make list proto heap from (kind.Global names) parts = may_find list (import_name proto (line_text names.first) (line_text names.second))
may_make list proto heap from kind.StackGlobal parts = may_find list (import_name proto (part_text heap parts 0) (part_text heap parts 1))
may_make list proto heap from (kind.Ext n) parts = is_in list (extension_word n)
may_make list proto heap from (kind.PersistentLine line) parts = is_in list persistent_word
may_make list proto heap from kind.Persistent parts = is_in list persistent_word
may_make list proto heap from (kind.Buffer n) parts = is_in list buffer_word
may_make list proto heap from kind.Call parts = may_use list use_of.Call (callee_source from parts)
may_make list proto heap from kind.New parts = may_use list use_of.New (callee_source from parts)
may_make list proto heap from kind.NewEx parts = may_use list use_of.New (callee_source from parts)
may_make list proto heap from kind.Obj parts = may_use list use_of.Call (callee_source from parts)
may_make list proto heap from (kind.Inst names) parts = false
may_make list proto heap from _ parts = true

-- what was done with objects: which of them have their state, of which something was made, and which have attributes by a state
pub record Past : Type 0 where
  pub had : ℕ → Bool
  pub made : ℕ → Bool
  pub named : ℕ → Bool

-- items and a state are given to what has no state, as long as nothing was made of it
abbrev pub may_change : Past → ℕ → Bool
may_change past id = not (past.had id || past.made id)

-- an event: with these arguments, and with this state. Picklers give an object its items, and then its state, once, before something else is made of it
-- (Lib/pickle.py, `save_reduce`). A state may replace what is looked up of the object itself, and of what was made of it: `__setstate__`, `__dict__` and
-- `__class__` where it gets one more state, `append`, `extend`, `add` and `update` where it gets items, `__new__` where an instance of it is made. So
-- none of this is done with what has its state, or was made of such. It may be called: what that does its class says, and picklers call a
-- `functools.partial` that has its state
abbrev pub may_happen : List Entry → ℕ → List Object → List (Option Source) → Past → Option Event → Bool
may_happen list proto heap from past None = true
may_happen list proto heap from past (Some (event.Made id)) =
    option_map_or (λ (o : Object). may_make list proto heap from o.kind o.parts && (may_be_given list proto heap o.kind o.parts && not (is_of_ready past.had o.kind o.parts))) (slice_get heap id) true
may_happen list proto heap from past (Some (event.State value target)) =
    may_use list use_of.State (source_at from target) && (may_be_set list proto heap value target && (may_be_state past.named heap value && may_change past target))
may_happen list proto heap from past (Some (event.Filled how count target)) = may_use list use_of.Fill (source_at from target) && may_change past target

-- what the first k items did
abbrev pub past_at : Contents → ℕ → Past
past_at d k = record { had = has_state d k; made = has_made d k; named = is_named d k }

-- the event of item k
abbrev pub is_allowed_on : List Entry → ℕ → List (Option Source) → Past → Option Operation → Option State → Option State → Bool
is_allowed_on list proto from past (Some o) (Some s) (Some t) = may_happen list proto t.heap from past (event_of (row_of o) (before_of (fresh s)) t)
is_allowed_on list proto from past (Some o) (Some s) None = true
is_allowed_on list proto from past (Some o) None t = true
is_allowed_on list proto from past None s t = true

unfoldable pub is_allowed : List Entry → Contents → ℕ → Bool
is_allowed list d k =
    is_allowed_on list (protocol_of d) (sources d k) (past_at d k) (item_at d k) (run (start d.many) (ops_of d) k) (run (start d.many) (ops_of d) (suc k))

-- the first of n items that is not allowed
unfoldable pub first_forbidden : List Entry → Contents → ℕ → Option ℕ
first_forbidden list d zero = None
first_forbidden list d (suc k) = or_here (first_forbidden list d k) (not (is_allowed list d k)) k

-- ---- the gate

-- the bytes are one pickle in the form that picklers write, which ends at STOP, and each of its items is allowed
pub record Passes (list : List Entry) (bytes : List ℕ) : Type 0 where
  pub document : Contents
  pub reads : ReadsAs false bytes document
  pub small : length bytes < 2 ^ 64
  pub in_form : first_other document ≡ None
  pub stops : ending_status (calls_end document).ending ≡ 0
  pub allowed : first_forbidden list document (length (ops_of document)) ≡ None
