-- Numbers that name objects: an object's number is its place in the heap.
use Rattle.std.specs.Prelude.{ℕ, ◌<◌, List, [], ◌∷◌, length}
use Rattle.std.specs.List.{All}
use Rattle.std.specs.Map.{values_of}
use Rattle.pickle_ops.specs.declared.object.Change.{Change}
use Rattle.pickle_ops.specs.declared.object.Change.TheVariants as change
use Rattle.pickle_ops.specs.Object.{Object}
use Rattle.pickle_machine.specs.State.{Marked, Left, State}

-- each of these numbers names one of this many objects
abbrev pub AreNames : ℕ → List ℕ → Type 0
AreNames count ids = All (λ id. id < count) ids

-- the objects that a change names
abbrev pub named_by : Change → List ℕ
named_by (change.Append id) = id ∷ []
named_by (change.SetItem key value) = key ∷ value ∷ []
named_by (change.Add id) = id ∷ []
named_by (change.Build id) = id ∷ []

-- the parts and the changes of an object name objects
pub record IsNaming (count : ℕ) (o : Object) : Type 0 where
  pub parts : AreNames count o.parts
  pub changes : All (λ c. AreNames count (named_by c)) o.changes

-- the sections under marks name objects, and so does a stack that was left behind
abbrev pub AreNaming : ℕ → List Marked → Type 0
AreNaming count ms = All (λ m. AreNames count m.section) ms

pub record IsNamingBehind (count : ℕ) (l : Left) : Type 0 where
  pub top : AreNames count l.top
  pub marked : AreNaming count l.marked

-- every number of a state names one of its objects
pub record NamesAll (s : State) : Type 0 where
  pub heap : All (λ o. IsNaming (length s.heap) o) s.heap
  pub top : AreNames (length s.heap) s.top
  pub marked : AreNaming (length s.heap) s.marked
  pub memo : AreNames (length s.heap) (values_of s.memo)
  pub results : AreNames (length s.heap) s.results
  pub left : All (λ l. IsNamingBehind (length s.heap) l) s.left
