-- How far the items of a source are listed. These are no definitions of the listing.
use Rattle.std.specs.Prelude.{◌≡◌, ℕ, ◌≤◌, ◌==◌, ◌&&◌, Bool, false, List, length, take, Option, Some}
use Rattle.pickle_io.specs.Device.{Told, Wrote}
use Rattle.pickle_doc.specs.Document.{Contents, items_of, ReadsIn, ends_with_stop, size_limit}
use Rattle.pickle_doc.specs.Place.{ops_of, offset_of}
use Rattle.pickle_doc.specs.Stream.{HasRead}
use Rattle.pickle_doc.specs.Unread.{Unread}
use Rattle.pickle_machine.specs.State.{State, Marked, start}
use Rattle.pickle_machine.specs.Move.{fresh}
use Rattle.pickle_machine.specs.Outline.{outline}
use Rattle.pickle_machine.specs.Run.{run}
use Rattle.pickle_list.specs.declared.list.SoFar.{SoFar}
use Rattle.pickle_list.specs.Line.{highest_protocol}
use Rattle.pickle_list.specs.ArgTexts.{ArgTexts}
use Rattle.pickle_list.specs.Listing.{lines_in}
use Rattle.pickle_list.specs.Inside.Marks.{mark_offsets}

-- the first k items have moves, and these marks are open
pub record Progress (d : Contents) (k offset : ℕ) (s : State) (ms : List Marked) (opened : List ℕ) (highest : Option ℕ) : Type 0 where
  pub reached : run (start d.many) (ops_of d) k ≡ Some s
  pub stands : offset ≡ offset_of d k
  pub marks : opened ≡ mark_offsets d ms
  pub most : highest ≡ highest_protocol (take k (ops_of d))
  pub heap : length s.heap ≤ k
  pub few : length ms ≤ k

-- of the document that the bytes are, k items were read, and have moves; this is the outline of the state that they
-- reach, as the next move is taken on it, and the device took their lines
pub record Listed (args : ArgTexts) (many loose : Bool) (bytes : List ℕ) (old new : Told) (rest : List ℕ) (left k offset : ℕ)
    (outlined : State) (opened : List ℕ) (highest : Option ℕ) : Type 0 where
  pub d : Contents
  pub reads : ReadsIn many loose bytes d
  pub stands : HasRead d k rest left
  pub s : State
  pub outlines : outline (fresh s) ≡ outlined
  pub progress : Progress d k offset s (fresh s).marked opened highest
  pub written : Wrote old new (lines_in args d k)
  -- STOP ends the listing where nothing stands behind it
  pub goes : (length rest == 0 && ends_with_stop (take k (items_of d))) ≡ false

-- where a listing began: what was not read yet, and what the device reported
pub record Begun : Type 0 where
  pub unread : Unread
  pub told : Told

-- so far it is listed, where the bytes are not too many
abbrev pub HasListed : {I : Type 0} → ArgTexts → Bool → Begun → (I → Unread) → Told → SoFar I → Type 0
HasListed args many begun unread told far =
    ((unread far.reader).loose ≡ begun.unread.loose)
    × Listed args many begun.unread.loose begun.unread.rest begun.told told (unread far.reader).rest (unread far.reader).left
    far.place far.offset far.lean far.opened.items far.highest
    × (length begun.unread.rest ≤ size_limit)
