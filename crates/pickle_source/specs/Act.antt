-- What a step does that the source may tell: where the imports and calls have a line, that it reaches out of the pickle; else that it makes
-- an object that may have a name, puts something into an object, or gives a result.
-- Source: own.
use Rattle.std.specs.Prelude.{ℕ, ◌-◌, ◌==◌, if◌then◌else◌, List, [], drop, length, slice_get, Option, Some, None}
use Rattle.std.specs.Option.{option_map_or}
use Rattle.pickle_ops.specs.declared.row.Row.{Row}
use Rattle.pickle_ops.specs.declared.row.Row.TheVariants as row
use Rattle.pickle_ops.specs.declared.row.Filling.{Filling}
use Rattle.pickle_ops.specs.declared.object.Change.{Change}
use Rattle.pickle_ops.specs.Object.{Object}
use Rattle.pickle_machine.specs.State.{State}
use Rattle.pickle_calls.specs.declared.event.Event.{Event}
use Rattle.pickle_calls.specs.declared.event.Before.{Before}
use Rattle.pickle_calls.specs.Event.{before_of, top_of, filled_count, event_of}
use Rattle.pickle_source.specs.declared.act.What.{What}
use Rattle.pickle_source.specs.declared.act.What.TheVariants as what
use Rattle.pickle_source.specs.Value.{is_short_value}

-- how many items, pairs or members went into an object, by what is looked at before the step and after it
abbrev pub count_of : Filling → Before → Before → ℕ
count_of f b a = filled_count f (b.size - a.size)

-- what was done to the object of this number
abbrev pub changes_at : List Object → ℕ → List Change
changes_at heap id = option_map_or (λ (o : Object). o.changes) (slice_get heap id) []

abbrev pub last_of : ℕ → List Change → List Change
last_of n changes = drop (length changes - n) changes

-- n changes went into the object of this number
abbrev pub fill_of : ℕ → ℕ → Option What
fill_of n id = if n == 0 then None else Some (what.Filled id n)

abbrev pub made_as : ℕ → Option Object → Option What
made_as id None = None
made_as id (Some o) = if is_short_value o.kind then None else Some (what.Made id)

abbrev pub made_at : List Object → ℕ → Option What
made_at heap id = made_as id (slice_get heap id)

-- what stays in the pickle
abbrev pub held_of : Row → Before → Before → List Object → Option What
held_of (row.Change f) b a heap = fill_of (count_of f b a) a.top
held_of (row.CutChange f) b a heap = fill_of (count_of f b a) a.top
held_of row.Stop b a heap = Some (what.Result b.top)
held_of _ b a heap = made_at heap b.next

abbrev pub or_held : Option Event → Option What → Option What
or_held (Some e) held = Some (what.Reached e)
or_held None held = held

-- by what is looked at before the step and the state after it
abbrev pub what_of : Row → Before → State → Option What
what_of r b t = or_held (event_of r b t) (held_of r b (before_of t) t.heap)

-- how many changes of the object of this number come before the last n
abbrev pub before_those : ℕ → List Object → ℕ → ℕ
before_those n heap id = length (changes_at heap id) - n

-- how many changes of the object that a step fills come before those of the step; of a result, how many there are with it
abbrev pub first_of : Row → Before → State → ℕ
first_of (row.Change f) b t = before_those (count_of f b (before_of t)) t.heap (top_of t)
first_of (row.CutChange f) b t = before_those (count_of f b (before_of t)) t.heap (top_of t)
first_of row.Stop b t = length t.results
first_of _ b t = 0

-- the protocol by which names are read after a step: what PROTO says, until STOP
abbrev pub protocol_after : Row → ℕ → ℕ
protocol_after (row.Protocol n) protocol = n
protocol_after row.Stop protocol = 0
protocol_after _ protocol = protocol
