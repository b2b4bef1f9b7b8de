-- What a record of an edit does to the list of items.
use Rattle.std.specs.Prelude.{◌≡◌, ℕ, ◌+◌, ◌<◌, ◌≤◌, List, length, slice_set, Option, Some, None, ⊤}
use Rattle.std.specs.List.{insert, remove}
use Rattle.pickle_doc.specs.declared.item.Item.{Item}
use Rattle.pickle_doc.specs.declared.record.ItemChange.{ItemChange}
use Rattle.pickle_doc.specs.declared.record.ItemChange.TheVariants.{Put, Take, Set}
use Rattle.pickle_doc.specs.declared.record.Numbered.{Numbered}
use Rattle.pickle_doc.specs.declared.record.EditRecord.{EditRecord}
use Rattle.pickle_doc.specs.Document.{Contents, items_of, document_bytes, ended_by, IsDocument, size_limit}
use Rattle.pickle_doc.specs.Alike.{AgreeBefore}

-- the place of the edit
abbrev pub record_place : EditRecord → ℕ
record_place r = r.place

-- the items with a change at this place
abbrev pub with_change : ItemChange → ℕ → List Item → List Item
with_change (Put i) k items = insert items k i
with_change Take k items = remove items k
with_change (Set i) k items = slice_set items k i

-- a change can be made at this place
abbrev pub IsPlaceOf : ItemChange → ℕ → List Item → Type 0
IsPlaceOf (Put i) k items = k ≤ length items
IsPlaceOf Take k items = k < length items
IsPlaceOf (Set i) k items = k < length items

-- the items with another FRAME
abbrev pub renumbered : Option Numbered → List Item → List Item
renumbered None items = items
renumbered (Some f) items = slice_set items f.place f.item

-- the FRAME is before this place
abbrev pub IsNumberPlace : Option Numbered → ℕ → Type 0
IsNumberPlace None k = ⊤
IsNumberPlace (Some f) k = f.place < k

-- the items on the other side
abbrev pub swapped_items : EditRecord → List Item → List Item
swapped_items r items = with_change r.change r.place (renumbered r.frame items)

pub record CanSwap (r : EditRecord) (items : List Item) : Type 0 where
  pub place : IsPlaceOf r.change r.place items
  pub frame : IsNumberPlace r.frame r.place

-- the record leads from one document to another
pub record EditLeads (r : EditRecord) (d e : Contents) : Type 0 where
  pub can : CanSwap r (items_of d)
  pub items : swapped_items r (items_of d) ≡ items_of e
  pub many : d.many ≡ e.many
  pub loose : d.loose ≡ e.loose
  pub tail : d.tail ≡ e.tail
  pub ended : ended_by d ≡ ended_by e
  pub next : d.next ≡ e.next
  pub document : IsDocument e
  pub within : length (document_bytes e) ≤ size_limit
  pub before : AgreeBefore r.place (items_of d) (items_of e)

-- the record leads from a document somewhere where it has room for this many more items
abbrev pub LeadsWithin : EditRecord → Contents → ℕ → Type 0
LeadsWithin r d room = (e : Contents) × EditLeads r d e × (length (items_of e) ≤ length (items_of d) + room)

-- ---- laws

-- this many identities were given
abbrev pub risen : ℕ → Contents → Contents
risen n d = record d { next = d.next + n }

-- a record leads on, also where identities were given since
abbrev pub EditLeadsOn : Type 0
EditLeadsOn = (n : ℕ) (r : EditRecord) (d e : Contents) → EditLeads r d e → EditLeads r (risen n d) (risen n e)
