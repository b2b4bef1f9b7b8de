-- The records of the steps over the items of a document, and which of them a session keeps.
-- Source: own.
use Rattle.std.specs.Prelude.{ℕ, ◌-◌, nat_le, nat_lt, ◌&&◌, if◌then◌else◌, Option, Some, None}
use Rattle.pickle_ops.specs.Spelling.{Operation}
use Rattle.pickle_ops.specs.Row.{row_of}
use Rattle.pickle_doc.specs.Document.{Contents}
use Rattle.pickle_doc.specs.Place.{item_at}
use Rattle.pickle_machine.specs.State.{State}
use Rattle.pickle_machine.specs.Back.{Record}
use Rattle.pickle_machine.specs.Records.{step_record}
use Rattle.pickle_session.specs.Session.{state_at}

-- the record of the step over an item, from the state before it
abbrev pub record_on : Option Operation → Option State → Option Record
record_on (Some o) (Some s) = Some (step_record (row_of o) s)
record_on (Some o) None = None
record_on None s = None

-- the record of the step over the item at a place, from the state that the items before it reach
abbrev pub record_at : Contents → ℕ → Option Record
record_at d k = record_on (item_at d k) (state_at d k)

-- the same where it is kept: of the steps before the cursor so many of the latest are
abbrev pub kept_record : Contents → ℕ → ℕ → ℕ → Option Record
kept_record d kept cursor k = if nat_le (cursor - kept) k && nat_lt k cursor then record_at d k else None
