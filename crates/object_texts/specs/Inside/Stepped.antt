-- How far a machine was stepped over the items of a source. These are no definitions of the report.
use Rattle.std.specs.Prelude.{◌≡◌, ℕ, ◌≤◌, Bool, List, length, take, Some}
use Rattle.pickle_doc.specs.Document.{Contents, items_of, ReadsIn, ends_with_stop, size_limit}
use Rattle.pickle_doc.specs.Place.{ops_of}
use Rattle.pickle_doc.specs.Stream.{HasRead}
use Rattle.pickle_doc.specs.Unread.{Unread}
use Rattle.pickle_machine.specs.State.{State, start}
use Rattle.pickle_machine.specs.Run.{run}
use Rattle.object_texts.specs.declared.report.SoFar.{SoFar}

-- of the document that the bytes are, k items were read and stepped, and the last of them is STOP or not
pub record Stepped (many loose : Bool) (bytes rest : List ℕ) (left k : ℕ) (s : State) (last : Bool) : Type 0 where
  pub d : Contents
  pub reads : ReadsIn many loose bytes d
  pub stands : HasRead d k rest left
  pub reached : run (start d.many) (ops_of d) k ≡ Some s
  pub heap : length s.heap ≤ k
  pub ends : ends_with_stop (take k (items_of d)) ≡ last

-- so far it was stepped, where the bytes are this many, and not too many
abbrev pub HasStepped : {I : Type 0} → Bool → Unread → ℕ → (I → Unread) → State → SoFar I → Type 0
HasStepped many begun total unread s far =
    ((unread far.reader).loose ≡ begun.loose)
    × Stepped many begun.loose begun.rest (unread far.reader).rest (unread far.reader).left far.place s far.stop
    × (length begun.rest ≤ size_limit)
    × (total ≡ length begun.rest)
