-- The record that undoes another. That it leads back is what a swap promises; which record does so is the crate's own
-- business.
use Rattle.std.specs.Prelude.{ℕ, List, slice_get, Option, Some, None}
use Rattle.pickle_doc.specs.declared.item.Item.{Item}
use Rattle.pickle_doc.specs.declared.record.ItemChange.{ItemChange}
use Rattle.pickle_doc.specs.declared.record.ItemChange.TheVariants.{Put, Take, Set}
use Rattle.pickle_doc.specs.declared.record.Numbered.{Numbered}
use Rattle.pickle_doc.specs.declared.record.EditRecord.{EditRecord}
use Rattle.pickle_doc.specs.Document.{Contents, items_of}
use Rattle.pickle_doc.specs.Inside.Grouping.{contents_of}
use Rattle.pickle_doc.specs.Swap.{swapped_items}

abbrev pub put_of : Option Item → ItemChange
put_of (Some i) = Put i
put_of None = Take

abbrev pub set_of : Option Item → ItemChange
set_of (Some i) = Set i
set_of None = Take

-- the change that undoes it
abbrev pub undo : ItemChange → ℕ → List Item → ItemChange
undo (Put i) k items = Take
undo Take k items = put_of (slice_get items k)
undo (Set i) k items = set_of (slice_get items k)

abbrev pub number_at : ℕ → Option Item → Option Numbered
number_at k (Some i) = Some (record { place = k; item = i })
number_at k None = None

abbrev pub undo_number : Option Numbered → List Item → Option Numbered
undo_number None items = None
undo_number (Some f) items = number_at f.place (slice_get items f.place)

-- the document on the other side
abbrev pub other_side : EditRecord → Contents → Contents
other_side r d = contents_of d.many d.loose (swapped_items r (items_of d)) d.tail d.next

-- the record that leads back
abbrev pub swap_back : EditRecord → List Item → EditRecord
swap_back r items = record { place = r.place; change = undo r.change r.place items; frame = undo_number r.frame items }
