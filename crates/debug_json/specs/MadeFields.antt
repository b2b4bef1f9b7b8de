-- The line of the item that made an object, and of the items that changed it, of those whose record is kept.
-- Source: own. What a step does is what the machine's definitions say, by the state before it.
use Rattle.std.specs.Prelude.{ℕ, zero, suc, ◌+◌, ◌-◌, ◌==◌, Bool, false, ◌&&◌, nat_lt, nat_le, if◌then◌else◌, List, [], codes, Option, Some, None}
use Rattle.json.specs.Json.{Json}
use Rattle.json_lines.specs.Line.{Field, field, ◌⊕◌, whole, line}
use Rattle.pickle_ops.specs.Spelling.{Operation}
use Rattle.pickle_ops.specs.Row.{row_of}
use Rattle.pickle_doc.specs.Document.{Contents}
use Rattle.pickle_doc.specs.Place.{item_at, offset_of}
use Rattle.pickle_machine.specs.State.{State}
use Rattle.pickle_machine.specs.Doing.{Doing, does}
use Rattle.pickle_session.specs.Session.{Session, state_at}
use Rattle.debug_json.specs.declared.made.Changer.{Changer}
use Rattle.debug_json.specs.Array.{object_json, picked_json}

-- ---- what the step over an item does

abbrev pub does_on : Option Operation → Option State → Option Doing
does_on (Some o) (Some s) = Some (does (row_of o) s)
does_on (Some o) None = None
does_on None s = None

-- by the state that the items before it reach
abbrev pub does_at : Contents → ℕ → Option Doing
does_at d k = does_on (item_at d k) (state_at d k)

-- the object that it makes
abbrev pub made_by : Option Doing → Option ℕ
made_by None = None
made_by (Some x) = x.made

-- the object that it changes, with how many changes
abbrev pub changed_by : Option Doing → Option (ℕ × ℕ)
changed_by None = None
changed_by (Some x) = x.changed

-- ---- the item that made an object

abbrev pub is_number : ℕ → Option ℕ → Bool
is_number n None = false
is_number n (Some made) = made == n

-- the last item before a place that makes object n, of those from one on. There is one at most
abbrev pub maker : Contents → ℕ → ℕ → ℕ → Option ℕ
maker d first n zero = None
maker d first n (suc k) = if nat_le first k && is_number n (made_by (does_at d k)) then Some k else maker d first n k

-- ---- the items that changed it

-- how many changes object n gets of these
abbrev pub gets : ℕ → Option (ℕ × ℕ) → Option ℕ
gets n None = None
gets n (Some c) = if c.0 == n && nat_lt 0 c.1 then Some c.1 else None

-- an item by which object n gets so many changes
abbrev pub changer_by : Contents → ℕ → Option ℕ → Option Changer
changer_by d k None = None
changer_by d k (Some changes) = Some (record { item = k; offset = offset_of d k; changes = changes })

abbrev pub changer : Contents → ℕ → ℕ → Option Changer
changer d n k = changer_by d k (gets n (changed_by (does_at d k)))

-- of the items from one on
abbrev pub changer_from : Contents → ℕ → ℕ → ℕ → Option Changer
changer_from d first n i = changer d n (first + i)

-- ---- the line

unfoldable pub changer_fields : Changer → List Field
changer_fields c = field (codes "item") (whole c.item) ⊕ field (codes "offset") (whole c.offset) ⊕ field (codes "changes") (whole c.changes)

unfoldable pub changer_json : Changer → Json
changer_json c = object_json (codes "changer") (changer_fields c)

unfoldable pub place_fields : ℕ → ℕ → List Field
place_fields k offset = field (codes "item") (whole k) ⊕ field (codes "offset") (whole offset)

unfoldable pub maker_fields : Contents → Option ℕ → List Field
maker_fields d None = []
maker_fields d (Some k) = place_fields k (offset_of d k)

-- the first item whose record is kept, where others were dropped
unfoldable pub since_field : ℕ → List Field
since_field first = if nat_lt 0 first then field (codes "since") (whole first) else []

-- the items from one on and before another
unfoldable pub changers_field : Contents → ℕ → ℕ → ℕ → List Field
changers_field d first n cursor = field (codes "changed") (picked_json changer_json (changer_from d first n) (cursor - first))

unfoldable pub made_fields : Session → ℕ → ℕ → List Field
made_fields s n first =
    field (codes "object") (whole n) ⊕ maker_fields s.document (maker s.document first n s.cursor) ⊕ since_field first ⊕ changers_field s.document first n s.cursor

unfoldable pub made_line : Session → ℕ → ℕ → List ℕ
made_line s n first = line (codes "made") (made_fields s n first)
