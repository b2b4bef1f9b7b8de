-- What the walk over spots keeps.
use Rattle.std.specs.Prelude.{◌≡◌, ◌≢◌, ◌⊎◌, ℕ, ◌+◌, ◌<◌, ◌≤◌, ◌==◌, ◌&&◌, ◌||◌, if◌then◌else◌, nat_le, Bool, true, false, List, [], ◌∷◌, ◌++◌, length, All, Contains, None, IfSome, ⊤}
use Rattle.std.specs.List.{slice_index_or}
use Rattle.std.specs.Option.{is_none}
use Rattle.pickle_ops.specs.Spelling.{Operation, size_of}
use Rattle.pickle_ops.specs.Table.{opcode_of}
use Rattle.pickle_doc.specs.DocUnit.{is_frame, is_stop}
use Rattle.pickle_lenient.specs.declared.taken.Frames.{Frames}
use Rattle.pickle_reach.specs.declared.granted.Granted.{Granted}
use Rattle.pickle_reach.specs.declared.spot.Spot.{Spot}
use Rattle.pickle_reach.specs.declared.spot.Step.{Step}
use Rattle.pickle_reach.specs.declared.spot.Visit.{Visit}
use Rattle.pickle_reach.specs.declared.spot.Step.TheVariants as step
use Rattle.pickle_reach.specs.Reach.{Turn, MayStand, first_spot, step_at, as_shown, AreDistinct, IsNext}

-- ---- the spots that wait

-- it waits besides the others, or did already
abbrev pub Added : List Spot → Spot → List Spot → Type 0
Added old s new = ((new ≡ old ++ s ∷ []) × All (λ t. t ≢ s) old) ⊎ ((new ≡ old) × Contains old s)

-- so does the same with its buffer shown
abbrev pub AddedBoth : List Spot → Spot → List Spot → Type 0
AddedBoth old s new = (mid : List Spot) × Added old s mid × Added mid (as_shown true s) new

-- none has a lower offset than the one at this place
abbrev pub IsLeast : List Spot → ℕ → Type 0
IsLeast waiting place = (d : Spot) (k : ℕ) → k < length waiting → (slice_index_or waiting place d).offset ≤ (slice_index_or waiting k d).offset

-- ---- a step

-- what is in the buffer is within the bytes
abbrev pub IsWithin : List ℕ → Spot → Type 0
IsWithin bytes s = s.offset + s.left ≤ length bytes

-- a spot behind it is within them, too
abbrev pub GoesOn : List ℕ → Spot → Step → Type 0
GoesOn bytes s step.Reaches = ⊤
GoesOn bytes s step.Ends = ⊤
GoesOn bytes s (step.Goes t) = IsWithin bytes t × (s.offset < t.offset)

-- what the spots that wait come to when one was looked at, by what it came to
abbrev pub VisitedBy : Step → List Spot → List Spot → Bool → Type 0
VisitedBy step.Reaches old new reached = (new ≡ old) × (reached ≡ true)
VisitedBy step.Ends old new reached = (new ≡ old) × (reached ≡ false)
VisitedBy (step.Goes t) old new reached = AddedBoth old t new × (reached ≡ false)

-- ---- operations that are read alike whatever is done with frames

-- all of so many bytes is in the buffer, or nothing is
abbrev pub is_whole : ℕ → ℕ → Bool
is_whole left size = left == 0 || nat_le size left

abbrev pub is_plain : ℕ → Operation → Bool
is_plain left o =
    if is_frame o.opcode then false
    else if is_stop o.opcode then is_whole left (size_of o) && nat_le left (size_of o)
    else is_whole left (size_of o)

-- bytes begin with one that is no code
abbrev pub is_unknown : List ℕ → Bool
is_unknown [] = false
is_unknown (code ∷ rest) = is_none (opcode_of code)

-- ---- one spot

-- the spot behind it, which is within the bytes, its buffer shown or not
pub record IsBehind (g : Granted) (bytes : List ℕ) (s t : Spot) : Type 0 where
  pub turn : Turn
  pub next : Spot
  pub goes : step_at g bytes turn.frames s ≡ step.Goes next
  pub is : t ≡ as_shown turn.shown next
  pub within : IsWithin bytes t
  pub ahead : s.offset < t.offset

-- it reaches nothing, and the spots behind it are such
abbrev pub LeadsTo : Step → (Spot → Type 0) → Type 0
LeadsTo step.Reaches P = ⊥
LeadsTo step.Ends P = ⊤
LeadsTo (step.Goes t) P = (shown : Bool) → P (as_shown shown t)

abbrev pub Leads : Granted → List ℕ → (Spot → Type 0) → Spot → Type 0
Leads g bytes P s = (f : Frames) → LeadsTo (step_at g bytes f s) P

-- what the item there comes to does not hang on what follows the bytes
abbrev pub IsSettled : Granted → List ℕ → Spot → Type 0
IsSettled g bytes s = (more : List ℕ) (f : Frames) → step_at g (bytes ++ more) f s ≡ step_at g bytes f s

-- a spot was looked at, whatever is done with frames there: others wait now too, which are behind it
pub record IsVisited (g : Granted) (bytes : List ℕ) (s : Spot) (old new : List Spot) (visit : Visit) : Type 0 where
  pub fresh : All (λ t. Contains old t ⊎ IsBehind g bytes s t) new
  pub kept : All (Contains new) old
  pub alone : AreDistinct old → AreDistinct new
  pub reaches : IfSome visit.reached (λ f. step_at g bytes f s ≡ step.Reaches)
  pub leads : visit.reached ≡ None → Leads g bytes (Contains new) s
  pub settled : visit.settled ≡ true → IsSettled g bytes s

-- ---- all spots

-- it was looked at, or waits
abbrev pub Known : List Spot → List Spot → Spot → Type 0
Known seen waiting t = Contains seen t ⊎ Contains waiting t

-- it waits where all spots that are left begin at this offset or behind it
pub record Waits (g : Granted) (bytes : List ℕ) (last : ℕ) (s : Spot) : Type 0 where
  pub next : IsNext g bytes last s
  pub within : IsWithin bytes s

-- what the walk keeps: so many spots were looked at, none twice, the last at this offset, and what they lead to was looked at or waits
pub record IsLeft (g : Granted) (bytes : List ℕ) (visits last : ℕ) (settled : Bool) (waiting : List Spot) : Type 0 where
  pub seen : List Spot
  pub count : length seen ≡ visits
  pub first : Known seen waiting first_spot
  pub leads : All (Leads g bytes (Known seen waiting)) seen
  pub stand : All (MayStand g bytes) seen
  pub settles : settled ≡ true → All (IsSettled g bytes) seen
  pub below : All (λ s. s.offset ≤ last) seen
  pub latest : 0 < visits → (s : Spot) × Contains seen s × (s.offset ≡ last)
  pub waits : All (Waits g bytes last) waiting
  pub distinct : AreDistinct seen
  pub alone : AreDistinct waiting
  pub apart : All (λ s. All (λ t. s ≢ t) waiting) seen
