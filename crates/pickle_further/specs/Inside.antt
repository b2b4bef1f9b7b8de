-- What the functions are said to do, piece by piece.
use Rattle.std.specs.Prelude.{◌≡◌, ◌⊎◌, ℕ, ◌+◌, ◌-◌, ◌*◌, ◌^◌, ◌≤◌, ◌<◌, ◌==◌, if◌then◌else◌, List, ◌++◌, length, drop, Option, Some, None, ⊤}
use Rattle.std.specs.Option.{option_map, option_map_or}
use Rattle.pickle_io.specs.Device.{Told, Wrote}
use Rattle.pickle_ops.specs.declared.fault.FrontFault.TheVariants as front
use Rattle.pickle_doc.specs.declared.fault.TailFault.TheVariants as tail
use Rattle.pickle_machine.specs.State.{State}
use Rattle.pickle_lenient.specs.declared.fault.NotTaken.{NotTaken}
use Rattle.pickle_lenient.specs.declared.fault.NotTaken.TheVariants as stop
use Rattle.pickle_io.specs.declared.hole.Hole.{Hole}
use Rattle.pickle_calls.specs.declared.course.Course.{Course}
use Rattle.pickle_calls.specs.declared.calls.Ran.{Ran}
use Rattle.pickle_calls.specs.declared.naming.Naming.{Naming}
use Rattle.pickle_calls.specs.declared.naming.Detail.{Detail}
use Rattle.pickle_calls.specs.Telling.{Telling}
use Rattle.pickle_calls.specs.Naming.{begin}
use Rattle.pickle_text.specs.declared.closing.Closing.{Closing}
use Rattle.pickle_text.specs.declared.closing.Closing.TheVariants as closing
use Rattle.pickle_further.specs.declared.way.Way.{Way}
use Rattle.pickle_further.specs.declared.way.Spot.{Spot}
use Rattle.pickle_further.specs.declared.engine.TaleEnd.{TaleEnd}
use Rattle.pickle_further.specs.declared.going.Gone.{Gone}
use Rattle.pickle_further.specs.declared.seek.Visited.{Visited}
use Rattle.pickle_further.specs.declared.seek.Sought.TheVariants as sought
use Rattle.pickle_further.specs.Leads.{or_first}
use Rattle.pickle_further.specs.Going.{Standing, Going, going, Tale, tale_in, tale_with, stands_after, nothing, search_from}

abbrev pub standing : State → List ℕ → Spot → Naming → Standing
standing s rest at naming = record { state = s; rest = rest; at = at; naming = naming }

-- at the first of these bytes, before anything was read
abbrev pub standing_begun : State → List ℕ → Detail → Standing
standing_begun s bytes how = standing s bytes (record { offset = 0; place = 0; left = 0 }) (begin how 0)

-- behind the items of these bytes that were run, in this state
abbrev pub standing_behind : List ℕ → State → Ran → Standing
standing_behind bytes s r = standing s (drop r.offset bytes) (record { offset = r.offset; place = r.place; left = 0 }) r.course.naming

-- where the first item is whose reading loses bytes, if there is one
abbrev pub loss_from : Way → Standing → Option ℕ
loss_from w p = option_map (λ (q : Standing). q.at.offset) (search_from sought.Lost w p)

-- it ended before an item, which has no line
pub record IsOver (gone : Gone) : Type 0 where
  pub silent : gone.event ≡ None
  pub closing : (c : Closing) × (gone.closing ≡ Some c)

-- an item came to this: where it moved the state is the next
pub record Goes (g : Going) (gone : Gone) (t : State) : Type 0 where
  pub is : gone ≡ g.gone
  pub state : (t ≡ g.state) ⊎ (IsOver gone)

-- where an item stood that was gone over, by the state before it
abbrev pub standing_of : State → Visited → Standing
standing_of s v = standing s v.rest.now v.at v.naming

-- from this state it was gone over, to that one
abbrev pub IsGoneOver : Way → State → Visited → State → Type 0
IsGoneOver w s v t = Goes (going w (standing_of s v)) v.gone t

-- nothing was read for a fault
abbrev pub EndsAtFault : NotTaken → ℕ → Gone → Type 0
EndsAtFault (stop.Fault f) offset gone = gone ≡ nothing (closing.Fault (tail.Front f) offset)
EndsAtFault stop.Memory offset gone = ⊥

-- the tale from an item on that was gone over, by the state after it, and of at most n items behind it
abbrev pub here : Gone → Standing → Going
here gone p = record { gone = gone; state = p.state }

abbrev pub tale_here : Telling → List Hole → ℕ → Way → Standing → Gone → Tale
tale_here say holes n w p gone = tale_with say holes p (here gone p) (tale_in say holes n w (stands_after p (here gone p)))

-- the same of all items behind it
abbrev pub tale_at : Telling → List Hole → Way → Standing → Gone → Tale
tale_at say holes w p gone = tale_here say holes (length p.rest) w p gone

-- why it ends after this item, n being how many more may come
abbrev pub ended : Gone → ℕ → ℕ → Option Closing
ended gone n offset = option_map_or Some gone.closing (if n == 0 then Some (closing.Fault (tail.Front front.Ended) (offset + gone.size)) else None)

-- ---- items one after another

-- it took some bytes where it goes on, and no more than are there; and there is room for what they can make
pub record HasRoom (s : State) (v : Visited) : Type 0 where
  pub size : v.gone.size ≤ length v.rest.now
  pub some : v.gone.closing ≡ None → 0 < v.gone.size
  pub few : length v.rest.now ≤ 2 ^ 30
  pub heap : length s.heap + 2 * length v.rest.now ≤ 2 ^ 32 - 16
  pub offset : v.at.offset + length v.rest.now ≤ 2 ^ 31
  pub place : v.at.place + length v.rest.now ≤ 2 ^ 31

-- an item is the one behind another, which led to this state, and was gone over
pub record IsNext (w : Way) (s : State) (v : Visited) (t : State) (next : Visited) : Type 0 where
  pub stands : standing_of s next ≡ stands_after (standing_of s v) (here v.gone (standing_of s v))
  pub goes : IsGoneOver w s next t

-- the item that is to be found was found, and gone over
abbrev pub Finds : Way → Option Standing → Option Visited → State → Type 0
Finds w (Some p) (Some v) t = (s : State) × (p ≡ standing_of s v) × IsGoneOver w s v t
Finds w (Some p) None t = ⊥
Finds w None (Some v) t = ⊥
Finds w None None t = ⊤

abbrev pub FindsRoom : State → Option Visited → Type 0
FindsRoom t (Some v) = HasRoom t v
FindsRoom t None = ⊤

-- ---- the lines of a tale

-- they were written, and this is how many imports and calls they are, how it ended, and the first import that leads to the unpickler
pub record WroteTale (old new : Told) (t : Tale) (end : TaleEnd) : Type 0 where
  pub written : Wrote old new t.lines.text
  pub imports : end.course.imports ≡ t.lines.imports
  pub calls : end.course.calls ≡ t.lines.calls
  pub closing : end.closing ≡ t.closing
  pub leads : end.leads ≡ t.leads

-- of a tale all lines are written but those of this one, whose counts come on top of these, and whose imports behind this one
pub record InTale (whole : Tale) (old now : Told) (course : Course) (found : Option ℕ) (t : Tale) : Type 0 where
  pub front : List ℕ
  pub written : Wrote old now front
  pub lines : whole.lines.text ≡ front ++ t.lines.text
  pub imports : whole.lines.imports ≡ course.imports + t.lines.imports
  pub calls : whole.lines.calls ≡ course.calls + t.lines.calls
  pub closing : whole.closing ≡ t.closing
  pub leads : whole.leads ≡ or_first found t.leads
