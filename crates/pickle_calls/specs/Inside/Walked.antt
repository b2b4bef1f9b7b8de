-- How far the items of a source were run, and their lines written. These are no definitions of the text.
use Rattle.std.specs.Prelude.{◌≡◌, ℕ, ◌≤◌, Bool, false, List, length, take, Option, Some, None}
use Rattle.pickle_io.specs.Device.{Told, Wrote}
use Rattle.pickle_doc.specs.Document.{Contents, items_of, ReadsAs, ends_with_stop, size_limit}
use Rattle.pickle_doc.specs.Place.{ops_of, offset_of}
use Rattle.pickle_doc.specs.Stream.{HasRead}
use Rattle.pickle_doc.specs.Unread.{Unread}
use Rattle.pickle_io.specs.declared.hole.Hole.{Hole}
use Rattle.pickle_machine.specs.State.{State, start}
use Rattle.pickle_machine.specs.Run.{run}
use Rattle.pickle_calls.specs.declared.calls.SoFar.{SoFar}
use Rattle.pickle_calls.specs.declared.course.Course.{Course}
use Rattle.pickle_calls.specs.declared.naming.Detail.{Detail}
use Rattle.pickle_calls.specs.Manner.{Manner, manner}
use Rattle.pickle_calls.specs.Telling.{Telling}
use Rattle.pickle_calls.specs.Calls.{naming_at, left_at, first_inside, entries_in}

-- the first k items have moves; this is the state that they reach, and these are the counts of their lines
pub record Progress (f : Telling) (how : Manner) (d : Contents) (k offset : ℕ) (s : State) (course : Course) : Type 0 where
  pub reached : run (start d.many) (ops_of d) k ≡ Some s
  pub stands : offset ≡ offset_of d k
  pub imports : course.imports ≡ (entries_in f how d k).imports
  pub calls : course.calls ≡ (entries_in f how d k).calls
  pub heap : length s.heap ≤ k
  pub few_imports : course.imports ≤ k
  pub few_calls : course.calls ≤ k
  pub naming : course.naming ≡ naming_at how.detail d k
  pub left : course.left ≡ left_at d k

-- of the document that the bytes are, k items were read and stepped, their lines were written, and the last of them is STOP or not
pub record Walked (f : Telling) (how : Manner) (many : Bool) (bytes : List ℕ) (old new : Told) (rest : List ℕ) (left k offset : ℕ)
    (s : State) (course : Course) (last : Bool) : Type 0 where
  pub d : Contents
  pub reads : ReadsAs many bytes d
  pub stands : HasRead d k rest left
  pub progress : Progress f how d k offset s course
  pub written : Wrote old new (entries_in f how d k).text
  pub ends : ends_with_stop (take k (items_of d)) ≡ last
  pub outside : first_inside d k ≡ None

-- where a run began: how much of an argument is shown, what was not read yet, and what the device reported
pub record Begun : Type 0 where
  pub detail : Detail
  pub rest : List ℕ
  pub told : Told

-- so far it was run, where the bytes are not too many
abbrev pub HasWalked : {I : Type 0} → Telling → List Hole → Bool → Begun → (I → Unread) → Told → State → SoFar I → Type 0
HasWalked f holes many begun unread told s far =
    ((unread far.reader).loose ≡ false)
    × Walked f (manner begun.detail holes) many begun.rest begun.told told (unread far.reader).rest (unread far.reader).left
    far.place far.offset s far.course far.stop
    × (length begun.rest ≤ size_limit)
