-- A place among items, and what is known there of the items before it. This is no definition of a document.
use Rattle.std.specs.Prelude.{◌≡◌, ℕ, ◌+◌, ◌<◌, ◌≤◌, true, false, List, length, take, slice_get, Bool, Option, Some, None}
use Rattle.pickle_doc.specs.declared.item.Item.{Item}
use Rattle.pickle_doc.specs.declared.bookmark.FramePlace.{FramePlace}
use Rattle.pickle_doc.specs.declared.bookmark.Bookmark.{Bookmark}
use Rattle.pickle_doc.specs.Document.{size_limit}
use Rattle.pickle_doc.specs.declared.fault.TailFault.{TailFault}
use Rattle.pickle_doc.specs.DocUnit.{is_frame, sizes}
use Rattle.pickle_doc.specs.Inside.Kept.{IsKept}

-- no item from place a on and before place b is a FRAME
abbrev pub NoFrameBetween : ℕ → ℕ → List Item → Type 0
NoFrameBetween a b items = (j : ℕ) (i : Item) → a ≤ j → j < b → slice_get items j ≡ Some i → is_frame i.op.opcode ≡ false

-- this FRAME is the last one before place k
pub record IsFrameBefore (f : FramePlace) (k : ℕ) (items : List Item) : Type 0 where
  pub before : f.place < k
  pub item : Item
  pub there : slice_get items f.place ≡ Some item
  pub frame : is_frame item.op.opcode ≡ true
  pub behind : f.behind ≡ sizes (take (f.place + 1) items)
  pub last : NoFrameBetween (f.place + 1) k items

-- this is the last FRAME before place k, if there is one
abbrev pub IsLastFrame : Option FramePlace → ℕ → List Item → Type 0
IsLastFrame None k items = NoFrameBetween 0 k items
IsLastFrame (Some f) k items = IsFrameBefore f k items

-- a bookmark in items, whose sizes are no more than a document may have
pub record IsBookmark (m : Bookmark) (items : List Item) : Type 0 where
  pub place : m.place ≤ length items
  pub offset : m.offset ≡ sizes (take m.place items)
  pub frame : IsLastFrame m.frame m.place items
  pub small : sizes items ≤ size_limit

-- what a document keeps, with a bookmark in its items
pub record IsBookmarked (many loose : Bool) (items : List Item) (tail : List ℕ) (e : Option TailFault) (next start : ℕ) (m : Bookmark) : Type 0 where
  pub kept : IsKept many loose items tail e next start
  pub bookmark : IsBookmark m items
