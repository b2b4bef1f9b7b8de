-- A state of which each object is there.
-- Source: own. Every state that opcodes lead to from nothing is such a one.
use Rattle.std.specs.Prelude.{◌≡◌, ℕ, ◌<◌, true, List, [], ◌∷◌, length, slice_get, Some, ⊤}
use Rattle.pickle_ops.specs.declared.kind.Kind.{Kind}
use Rattle.pickle_ops.specs.declared.kind.Kind.TheVariants as kind
use Rattle.pickle_ops.specs.declared.class.Demand.TheVariants as demand
use Rattle.pickle_ops.specs.Object.{Object}
use Rattle.pickle_ops.specs.Kind.{meets}
use Rattle.pickle_machine.specs.State.{Marked, State}

-- of n objects these are there, those of sections under marks, and those of a memo
abbrev pub AreThere : ℕ → List ℕ → Type 0
AreThere n [] = ⊤
AreThere n (id ∷ ids) = (id < n) × AreThere n ids

abbrev pub AreMarked : ℕ → List Marked → Type 0
AreMarked n [] = ⊤
AreMarked n (m ∷ ms) = AreThere n m.section × AreMarked n ms

abbrev pub AreKept : ℕ → List (ℕ × ℕ) → Type 0
AreKept n [] = ⊤
AreKept n (e ∷ es) = (e.1 < n) × AreKept n es

-- what a view is of is there, and can be written: a byte array, or what comes from elsewhere or from a call
abbrev pub IsSeen : List Object → Kind → List ℕ → Type 0
IsSeen heap kind.ReadOnly parts = (p : ℕ) × (x : Object) × (slice_get parts 0 ≡ Some p) × (slice_get heap p ≡ Some x) × (meets demand.Writable x.kind ≡ true)
IsSeen heap _ parts = ⊤

-- the objects of the stack and of the memo are there, and so is what each view is of
pub record IsWhole (s : State) : Type 0 where
  pub top : AreThere (length s.heap) s.top
  pub marked : AreMarked (length s.heap) s.marked
  pub memo : AreKept (length s.heap) s.memo
  pub views : (id : ℕ) (o : Object) → slice_get s.heap id ≡ Some o → IsSeen s.heap o.kind o.parts
