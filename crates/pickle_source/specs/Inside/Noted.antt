-- How far a machine was stepped over the items of a source, and what was noted. These are no definitions of the source.
use Rattle.std.specs.Prelude.{◌≡◌, ℕ, ◌≤◌, Bool, List, length, take, Some}
use Rattle.pickle_doc.specs.Document.{Contents, items_of, ReadsIn, ends_with_stop, size_limit}
use Rattle.pickle_doc.specs.Place.{ops_of, offset_of}
use Rattle.pickle_doc.specs.Stream.{HasRead}
use Rattle.pickle_doc.specs.Unread.{Unread}
use Rattle.pickle_machine.specs.State.{State, start}
use Rattle.pickle_machine.specs.Run.{run}
use Rattle.pickle_source.specs.declared.fact.Fact.{Fact}
use Rattle.pickle_source.specs.declared.act.Act.{Act}
use Rattle.pickle_source.specs.declared.walk.SoFar.{SoFar}
use Rattle.pickle_source.specs.Tale.{facts_at, protocol_at, acts_at}

-- what goes along with the items of a document
pub record GoesAlong (d : Contents) (k offset : ℕ) (protocol : ℕ) (facts : List Fact) (acts : List Act) : Type 0 where
  pub stands : offset ≡ offset_of d k
  pub read_by : protocol ≡ protocol_at d k
  pub known : facts ≡ facts_at d k
  pub done : acts ≡ acts_at d k

-- of the document that the bytes are, k items were read and stepped, and the last of them is STOP or not
pub record Noted (many loose : Bool) (bytes rest : List ℕ) (left k offset : ℕ) (s : State) (last : Bool) (protocol : ℕ) (facts : List Fact) (acts : List Act) : Type 0 where
  pub d : Contents
  pub reads : ReadsIn many loose bytes d
  pub stands : HasRead d k rest left
  pub reached : run (start d.many) (ops_of d) k ≡ Some s
  pub heap : length s.heap ≤ k
  pub ends : ends_with_stop (take k (items_of d)) ≡ last
  pub along : GoesAlong d k offset protocol facts acts

-- so far it was stepped, where the bytes are this many, and not too many
abbrev pub HasNoted : {I : Type 0} → Bool → Unread → ℕ → (I → Unread) → State → List Fact → List Act → SoFar I → Type 0
HasNoted many begun total unread s facts acts far =
    ((unread far.reader).loose ≡ begun.loose)
    × Noted many begun.loose begun.rest (unread far.reader).rest (unread far.reader).left far.place far.offset s far.stop far.protocol facts acts
    × (length begun.rest ≤ size_limit)
    × (total ≡ length begun.rest)
