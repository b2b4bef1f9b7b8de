-- How far the items of a document were run, their lines being written.
-- Source: own.
use Rattle.std.specs.Prelude.{◌≡◌, ℕ, ◌≤◌, Bool, List, length, Some}
use Rattle.pickle_io.specs.Device.{Told, Wrote}
use Rattle.pickle_doc.specs.Document.{Contents, ReadsAs}
use Rattle.pickle_doc.specs.Place.{ops_of, offset_of}
use Rattle.pickle_doc.specs.Unread.{Unread}
use Rattle.pickle_machine.specs.State.{State, start}
use Rattle.pickle_machine.specs.Run.{run}
use Rattle.pickle_machine.specs.Reading.{Reading}
use Rattle.pickle_calls.specs.Manner.{Manner}
use Rattle.pickle_calls.specs.declared.calls.Ran.{Ran}
use Rattle.pickle_calls.specs.Telling.{Telling}
use Rattle.pickle_calls.specs.Calls.{entries_in, naming_at, calls_end}

-- a machine that reads its objects again from the bytes has read as many items as were run, and the source gives the bytes that are left
abbrev pub GoesAlong : Reading → Unread → ℕ → Type 0
GoesAlong machine unread place = (machine.rest ≡ unread.rest) × (machine.place ≡ place)

-- the lines of the document that the bytes read as were written up to where they end; what they come to, and the state, the offset and
-- the place behind the last item
pub record IsRun (f : Telling) (how : Manner) (many : Bool) (bytes : List ℕ) (old new : Told) (s : State) (r : Ran) : Type 0 where
  pub d : Contents
  pub reads : ReadsAs many bytes d
  pub ends : calls_end d ≡ record { place = r.place; ending = r.ending }
  pub written : Wrote old new (entries_in f how d r.place).text
  pub imports : r.course.imports ≡ (entries_in f how d r.place).imports
  pub calls : r.course.calls ≡ (entries_in f how d r.place).calls
  pub naming : r.course.naming ≡ naming_at how.detail d r.place
  pub reached : run (start d.many) (ops_of d) r.place ≡ Some s
  pub offset : r.offset ≡ offset_of d r.place
  pub within : r.offset ≤ length bytes
  pub few : r.place ≤ length bytes
  pub heap : length s.heap ≤ r.place
