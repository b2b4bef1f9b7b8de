-- Whether the pickles in two byte strings make the same objects, and do so in the same order.
-- Source: own. Objects are those of the report (`object_texts/specs/Report.antt`): an object is its kind with what its opcode gave it, its
-- parts, and what was done to it since, in order. They hold what an opcode says, and not how it spells it: BININT, BININT1 and BININT2 make
-- one kind of object of a number, the three opcodes for a text one kind of its bytes; and no object holds a key of the memo, or a frame.
use Rattle.std.specs.Prelude.{◌≡◌, ◌≢◌, ℕ, ◌<◌, Bool, false, List, slice_get}
use Rattle.pickle_ops.specs.Object.{Object}
use Rattle.pickle_machine.specs.State.{State}
use Rattle.pickle_text.specs.declared.closing.Closing.{Closing}
use Rattle.pickle_text.specs.declared.closing.Closing.TheVariants as closing
use Rattle.pickle_calls.specs.declared.end.Ending.{Ending}
use Rattle.pickle_calls.specs.declared.end.Ending.TheVariants as ending
use Rattle.object_texts.specs.Inside.Ending.{EndsIn}
use Rattle.same_objects.specs.declared.compared.Compared.{Compared}
use Rattle.same_objects.specs.declared.compared.Compared.TheVariants as compared
use Rattle.same_objects.specs.Acts.{Acts}

-- the bytes are read to the end, as one pickle or as several, each item is accepted, and then this is the state
abbrev pub Makes : Bool → List ℕ → State → Type 0
Makes many bytes s = EndsIn many false bytes s closing.Stopped

-- STOP is the end, and no byte follows
abbrev pub at_end : Ending
at_end = ending.Closed 0 closing.Stopped

-- this is what the bytes do, to their end
abbrev pub Does : Bool → List ℕ → List ℕ → Type 0
Does many bytes acts = Acts many bytes acts at_end

-- both make the same objects, each with the same number, which is its place in the order in which they are made; they do the same in the same
-- order; and they give the same results
pub record SameObjects (many : Bool) (one other : List ℕ) : Type 0 where
  pub first : State
  pub second : State
  pub makes : Makes many one first
  pub remakes : Makes many other second
  pub objects : first.heap ≡ second.heap
  pub results : first.results ≡ second.results
  pub acts : List ℕ
  pub does : Does many one acts
  pub redoes : Does many other acts

-- ---- how they differ

-- the objects below this number are the same, and the one of this number is another one, or only one heap has it
pub record IsFirstOther (one other : List Object) (number : ℕ) : Type 0 where
  pub below : (k : ℕ) → k < number → slice_get one k ≡ slice_get other k
  pub differs : slice_get one number ≢ slice_get other number

-- how two states compare
abbrev pub ComparesStates : State → State → Compared → Type 0
ComparesStates s t compared.Same = (s.heap ≡ t.heap) × (s.results ≡ t.results)
ComparesStates s t (compared.Object n) = IsFirstOther s.heap t.heap n
ComparesStates s t compared.Results = (s.heap ≡ t.heap) × (s.results ≢ t.results)
ComparesStates s t _ = ⊥

-- a run that ends in another way, at an opcode or at a fault
abbrev pub EndsEarly : Bool → List ℕ → Closing → Type 0
EndsEarly many bytes c = (c ≢ closing.Stopped) × ((s : State) × EndsIn many false bytes s c)

-- the last STOP is not the end
abbrev pub GoesOn : Bool → List ℕ → Ending → Type 0
GoesOn many bytes e = (e ≢ at_end) × ((acts : List ℕ) × Acts many bytes acts e)

-- two pickles make these states, which compare so
abbrev pub BothMake : Bool → List ℕ → List ℕ → Compared → Type 0
BothMake many one other c = (s t : State) × Makes many one s × Makes many other t × ComparesStates s t c

-- two pickles do not do the same
abbrev pub DoOther : Bool → List ℕ → List ℕ → Type 0
DoOther many one other = (a b : List ℕ) × Does many one a × Does many other b × (a ≢ b)

-- how two byte strings compare
abbrev pub Compares : Bool → List ℕ → List ℕ → Compared → Type 0
Compares many one other compared.Same = SameObjects many one other
Compares many one other (compared.FirstEnds c) = EndsEarly many one c
Compares many one other (compared.OtherEnds c) = EndsEarly many other c
Compares many one other (compared.Object n) = BothMake many one other (compared.Object n)
Compares many one other compared.Results = BothMake many one other compared.Results
Compares many one other (compared.FirstGoesOn e) = GoesOn many one e
Compares many one other (compared.OtherGoesOn e) = GoesOn many other e
Compares many one other compared.Order = DoOther many one other
