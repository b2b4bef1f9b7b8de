-- What loaders do, item by item: one machine, which takes at least what each of them does.
-- Source: CPython's unpicklers in C and in Python, PyPy's, joblib's and torch's, as `taken` and `loader_move` say.
use Rattle.std.specs.Prelude.{ℕ, zero, suc, ◌+◌, ◌&&◌, ◌==◌, Bool, true, false, List, [], length, drop, if◌then◌else◌, Option, Some, None, is_some, Result, Ok, Err}
use Rattle.std.specs.Option.{option_map_or}
use Rattle.pickle_io.specs.Text.{◌⧺◌}
use Rattle.pickle_ops.specs.declared.opcode.Opcode.{Opcode}
use Rattle.pickle_ops.specs.declared.opcode.Opcode.TheVariants as op
use Rattle.pickle_ops.specs.declared.fault.FrontFault.{FrontFault}
use Rattle.pickle_ops.specs.declared.fault.FrontFault.TheVariants as front
use Rattle.pickle_ops.specs.Spelling.{Operation}
use Rattle.pickle_ops.specs.declared.row.Row.{Row}
use Rattle.pickle_ops.specs.declared.row.Row.TheVariants as row
use Rattle.pickle_doc.specs.declared.fault.TailFault.TheVariants as tail
use Rattle.pickle_doc.specs.DocUnit.{is_stop}
use Rattle.pickle_machine.specs.declared.refusal.Refusal.{Refusal}
use Rattle.pickle_machine.specs.declared.loader.Fill.{Fill}
use Rattle.pickle_machine.specs.declared.loader.LoaderMove.{LoaderMove}
use Rattle.pickle_machine.specs.State.{State}
use Rattle.pickle_machine.specs.Move.{fresh}
use Rattle.pickle_machine.specs.Loader.{loader_move, move_as, cleared}
use Rattle.pickle_lenient.specs.declared.taken.Frames.{Frames}
use Rattle.pickle_lenient.specs.declared.taken.Taken.{Taken}
use Rattle.pickle_lenient.specs.Row.{is_far}
use Rattle.pickle_lenient.specs.Stream.{taken}
use Rattle.pickle_further.specs.Splits.{splits}
use Rattle.pickle_further.specs.Leads.{or_first, event_leads}
use Rattle.pickle_io.specs.declared.hole.Hole.{Hole}
use Rattle.pickle_io.specs.Holes.{in_file}
use Rattle.pickle_text.specs.declared.closing.Closing.{Closing}
use Rattle.pickle_text.specs.declared.closing.Closing.TheVariants as closing
use Rattle.pickle_calls.specs.declared.event.Event.{Event}
use Rattle.pickle_calls.specs.declared.event.Event.TheVariants as event
use Rattle.pickle_calls.specs.declared.naming.Naming.{Naming}
use Rattle.pickle_calls.specs.Naming.{naming_after}
use Rattle.pickle_calls.specs.Event.{before_of, event_of}
use Rattle.pickle_calls.specs.Telling.{Telling, for_people}
use Rattle.pickle_calls.specs.Calls.{CountedText, counted_in}
use Rattle.pickle_further.specs.declared.way.Pickles.{Pickles}
use Rattle.pickle_further.specs.declared.way.Pickles.TheVariants as pickles
use Rattle.pickle_further.specs.declared.way.Way.{Way}
use Rattle.pickle_further.specs.declared.way.Spot.{Spot}
use Rattle.pickle_further.specs.declared.going.Gone.{Gone}
use Rattle.pickle_further.specs.declared.seek.Sought.{Sought}
use Rattle.pickle_further.specs.declared.seek.Sought.TheVariants as sought

-- ---- one item

-- where it stands: the state, the bytes that are not read yet, where their first is, and how names are read
pub record Standing : Type 0 where
  pub state : State
  pub rest : List ℕ
  pub at : Spot
  pub naming : Naming

-- what an item comes to, and the state after it
pub record Going : Type 0 where
  pub gone : Gone
  pub state : State

-- GET or PUT of a number of more than 64 bits that is refused counts as a bad argument, as it is to the machine
abbrev pub refused_at : Row → Spot → Refusal → Closing
refused_at r at e = if is_far r then closing.Fault (tail.Front front.BadArgument) at.offset else closing.Refused at.place e

-- it has no bearing on names
abbrev pub naming_row : Row → Row
naming_row r = if is_far r then row.Nothing else r

-- it ends before this item
abbrev pub nothing : Closing → Gone
nothing c = record { event = None; row = row.Nothing; size = 0; left = 0; lost = false; closing = Some c }

abbrev pub over : State → Closing → Going
over s c = record { gone = nothing c; state = s }

-- INST that only imports makes what GLOBAL does
abbrev pub used_op : LoaderMove → Operation → Operation
used_op m o = record { opcode = if m.imports then op.Global else o.opcode; arg = o.arg }

abbrev pub then_as : LoaderMove → Operation → ℕ → Result State Refusal → Result State Refusal
then_as m o place (Ok s) = if m.again then move_as m.row o place s else Ok s
then_as m o place (Err r) = Err r

abbrev pub moved_so : LoaderMove → Operation → ℕ → State → Result State Refusal
moved_so m o place s = then_as m o place (move_as m.row o place s)

-- what goes into an object that the machine would refuse is shown as well
abbrev pub event_by : LoaderMove → State → State → Option Fill → Option Event
event_by m s t None = event_of m.row (before_of s) t
event_by m s t (Some f) = Some (event.Filled f.filling f.count f.target)

-- after STOP: of the first pickle nothing is read then, and of several there are none behind the last byte
abbrev pub stops : Pickles → ℕ → Bool
stops pickles.First more = true
stops pickles.All more = more == 0
stops pickles.OneMemo more = more == 0

abbrev pub stopped_after : Pickles → Opcode → ℕ → Option Closing
stopped_after p o more = if is_stop o && stops p more then Some closing.Stopped else None

-- why it ends after this item, if it does, when there are so many bytes behind it
abbrev pub closing_after : Pickles → Opcode → ℕ → ℕ → Option Refusal → Option Closing
closing_after p o place more (Some r) = Some (closing.Refused place r)
closing_after p o place more None = stopped_after p o more

-- after STOP, where one unpickler reads on: the stack begins anew, and the memo stays
abbrev pub keeps : Pickles → Opcode → Bool
keeps pickles.OneMemo o = is_stop o
keeps pickles.First o = false
keeps pickles.All o = false

abbrev pub state_after : Pickles → Opcode → State → State
state_after p o s = if keeps p o then cleared s else s

abbrev pub gone_to : Way → Standing → Taken → LoaderMove → Result State Refusal → Going
gone_to w p item m (Err r) = over p.state (refused_at item.row p.at r)
gone_to w p item m (Ok t) = record {
  gone = record {
    event = event_by m p.state t m.fill;
    row = naming_row item.row;
    size = item.size;
    left = item.left;
    lost = item.lost;
    closing = closing_after w.pickles item.op.opcode p.at.place (length (drop item.size p.rest)) m.last;
  };
  state = state_after w.pickles item.op.opcode t;
}

abbrev pub gone_as : Way → Standing → Taken → LoaderMove → Going
gone_as w p item m = gone_to w p item m (moved_so m (used_op m item.op) p.at.place p.state)

abbrev pub gone_by : Way → Standing → Result Taken FrontFault → Going
gone_by w p (Err f) = over p.state (closing.Fault (tail.Front f) p.at.offset)
gone_by w p (Ok item) = gone_as w p item (loader_move item.op.opcode item.row (fresh p.state))

-- the next item
unfoldable pub going : Way → Standing → Going
going w p = gone_by w p (taken w.frames p.at.left p.rest)

-- where the item behind it is
abbrev pub spot_after : Spot → Gone → Spot
spot_after at g = record { offset = at.offset + g.size; place = at.place + 1; left = g.left }

abbrev pub stands_after : Standing → Going → Standing
stands_after p g =
    record { state = g.state; rest = drop g.gone.size p.rest; at = spot_after p.at g.gone; naming = naming_after g.gone.row (length g.state.heap) p.naming }

-- ---- all items, without the holes of a file

-- their lines with how many imports and calls these are, how it ended, and the first import that leads to the unpickler
pub record Tale : Type 0 where
  pub lines : CountedText
  pub closing : Closing
  pub leads : Option ℕ

abbrev pub tale_over : Closing → Tale
tale_over c = record { lines = record { text = []; imports = 0; calls = 0 }; closing = c; leads = None }

abbrev pub tale_after : CountedText → Option ℕ → Tale → Tale
tale_after e l t =
    record {
      lines = record { text = e.text ⧺ t.lines.text; imports = e.imports + t.lines.imports; calls = e.calls + t.lines.calls };
      closing = t.closing;
      leads = or_first l t.leads;
    }

-- an item, and unless it ended there what comes then
abbrev pub tale_with : Telling → List Hole → Standing → Going → Tale → Tale
tale_with say holes p g more =
    tale_after (counted_in say (in_file holes p.at.offset) p.naming g.state.heap g.gone.event) (event_leads g.state.heap g.gone.event)
    (option_map_or tale_over g.gone.closing more)

-- at most n items: more than there are bytes there are not
unfoldable pub tale_in : Telling → List Hole → ℕ → Way → Standing → Tale
tale_in say holes zero w p = tale_over (closing.Fault (tail.Front front.Ended) p.at.offset)
tale_in say holes (suc n) w p = tale_with say holes p (going w p) (tale_in say holes n w (stands_after p (going w p)))

abbrev pub tale_from : Telling → List Hole → Way → Standing → Tale
tale_from say holes w p = tale_in say holes (suc (length p.rest)) w p

-- the same as lines for people
abbrev pub tale : List Hole → ℕ → Way → Standing → Tale
tale holes n w p = tale_in for_people holes n w p

abbrev pub tale_of : List Hole → Way → Standing → Tale
tale_of holes w p = tale_from for_people holes w p

-- ---- the first item of a kind

-- of an item with so many bytes in the buffer, before these bytes
abbrev pub is_sought : Sought → Frames → ℕ → List ℕ → Gone → Bool
is_sought sought.Event f left rest g = is_some g.event
is_sought sought.Lost f left rest g = g.lost
is_sought sought.Split f left rest g = splits f left rest

abbrev pub search_on : Sought → Way → Gone → Standing → Option Standing → Option Standing
search_on x w g p more = if is_sought x w.frames p.at.left p.rest g then Some p else (if is_some g.closing then None else more)

-- of at most n items, where it stands before the first that is sought; none if it ends before
unfoldable pub search : Sought → ℕ → Way → Standing → Option Standing
search x zero w p = None
search x (suc n) w p = search_on x w (going w p).gone p (search x n w (stands_after p (going w p)))

-- of all items
abbrev pub search_from : Sought → Way → Standing → Option Standing
search_from x w p = search x (suc (length p.rest)) w p
