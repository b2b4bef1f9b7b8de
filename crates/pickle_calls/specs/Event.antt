-- The events: a step makes an object that comes from elsewhere or from a call, or a view of one; it puts something into such an
-- object; or it sets the state of an object. What else a step does stays among plain values.
-- Source: own. Which objects come from elsewhere or from a call, `is_opaque` says.
use Rattle.std.specs.Prelude.{ℕ, ◌-◌, ◌/◌, ◌||◌, ◌&&◌, Bool, false, nat_lt, if◌then◌else◌, List, length, slice_get, Option, Some, None}
use Rattle.std.specs.Option.{option_map_or, unwrap_or}
use Rattle.pickle_ops.specs.declared.kind.Kind.{Kind}
use Rattle.pickle_ops.specs.declared.kind.Kind.TheVariants as kind
use Rattle.pickle_ops.specs.declared.row.Row.{Row}
use Rattle.pickle_ops.specs.declared.row.Row.TheVariants as row
use Rattle.pickle_ops.specs.declared.row.Filling.{Filling}
use Rattle.pickle_ops.specs.declared.row.Filling.TheVariants as filling
use Rattle.pickle_ops.specs.Object.{Object}
use Rattle.pickle_ops.specs.Kind.{is_opaque}
use Rattle.pickle_machine.specs.State.{State, stack_of, stack_size}
use Rattle.pickle_machine.specs.Loader.{loose_at}
use Rattle.pickle_calls.specs.declared.event.Event.{Event}
use Rattle.pickle_calls.specs.declared.event.Event.TheVariants as event
use Rattle.pickle_calls.specs.declared.event.Before.{Before}

-- ---- before a step

-- the object on top of the stack; 0 where there is none, which no step meets that fills an object or sets a state
abbrev pub top_of : State → ℕ
top_of s = unwrap_or (slice_get (stack_of s) (stack_size s - 1)) 0

-- what is looked at of the state before a step: the number of the object that is made next, the objects on the stack, the top
abbrev pub before_of : State → Before
before_of s = record { next = length s.heap; size = stack_size s; top = top_of s }

-- ---- objects

-- the part of this number; 0 where there is none: no object lacks a part that is asked for
abbrev pub part : ℕ → List ℕ → ℕ
part i parts = unwrap_or (slice_get parts i) 0

-- the object of this number is there, and of such a kind
abbrev pub object_is : (Kind → Bool) → List Object → ℕ → Bool
object_is test heap id = option_map_or (λ (o : Object). test o.kind) (slice_get heap id) false

-- opaque, and no buffer: of buffers a view is a usual thing
abbrev pub is_foreign : Kind → Bool
is_foreign (kind.Buffer n) = false
is_foreign k = is_opaque k

abbrev pub views : List Object → Kind → List ℕ → Bool
views heap kind.ReadOnly parts = object_is is_foreign heap (part 0 parts)
views heap _ parts = false

-- a view of an opaque object that is no buffer
abbrev pub is_view : List Object → Object → Bool
is_view heap o = views heap o.kind o.parts

-- an object whose making is shown
abbrev pub is_shown : List Object → Object → Bool
is_shown heap o = is_opaque o.kind || is_view heap o

-- ---- the event of a step

abbrev pub made_as : List Object → ℕ → Option Object → Option Event
made_as heap id None = None
made_as heap id (Some o) = if is_shown heap o then Some (event.Made id) else None

-- the object of this number was made, if it is there
abbrev pub made_event : List Object → ℕ → Option Event
made_event heap id = made_as heap id (slice_get heap id)

-- how many objects the step took off the stack
abbrev pub taken_count : Before → State → ℕ
taken_count b t = b.size - stack_size t

-- how many items, pairs or members they are: keys and values go in pairs
abbrev pub filled_count : Filling → ℕ → ℕ
filled_count filling.SetItem n = n / 2
filled_count _ n = n

-- whether that many are shown that go into the object of this number: whoever appends or adds, be it nothing, asks the object for its
-- method, and a view of an opaque object may be that object itself; whoever sets nothing does nothing
abbrev pub touches : Filling → ℕ → List Object → ℕ → Bool
touches filling.Append n heap id = loose_at heap id
touches filling.Add n heap id = loose_at heap id
touches _ n heap id = nat_lt 0 n && object_is is_opaque heap id

-- n items, pairs or members went into the top, where that is shown
abbrev pub into : Filling → ℕ → State → Option Event
into f n t = if touches f n t.heap (top_of t) then Some (event.Filled f n (top_of t)) else None

-- objects were taken, if any, and went into the one that is the top after the step; a state is always shown
abbrev pub filled_event : Filling → Before → State → Option Event
filled_event filling.Build b t = Some (event.State b.top (top_of t))
filled_event f b t = into f (filled_count f (taken_count b t)) t

-- the event of a step of a row, if any, from what is looked at before it to the state after it
abbrev pub event_of : Row → Before → State → Option Event
event_of (row.Change f) b t = filled_event f b t
event_of (row.CutChange f) b t = filled_event f b t
event_of _ b t = made_event t.heap b.next
