-- Where loaders may stand that reached nothing, by what they do with frames at each item, and whether one reaches something.
-- Source: what a loader takes at the front of bytes `taken` says, with its sources: where frames are ignored, buffered, held. Modules/_pickle.c:
-- `_Unpickler_ReadFromFile`: what a file shows ahead (`peek`) stays in the file, so that of a frame that is shown nothing is lost.
use Rattle.std.specs.Prelude.{◌≡◌, ◌≢◌, ◌⊎◌, ℕ, ◌+◌, ◌*◌, ◌<◌, ◌≤◌, ◌||◌, if◌then◌else◌, Bool, true, false, List, [], ◌∷◌, ◌++◌, length, drop, All, Option, Some, None, Result, Ok, Err}
use Rattle.std.specs.List.{AllPairs}
use Rattle.pickle_ops.specs.declared.fault.FrontFault.{FrontFault}
use Rattle.pickle_ops.specs.Spelling.{Operation}
use Rattle.pickle_lenient.specs.declared.taken.Frames.{Frames}
use Rattle.pickle_lenient.specs.declared.taken.Taken.{Taken}
use Rattle.pickle_lenient.specs.Stream.{taken}
use Rattle.pickle_reach.specs.declared.granted.Granted.{Granted}
use Rattle.pickle_reach.specs.declared.spot.Spot.{Spot}
use Rattle.pickle_reach.specs.declared.spot.Step.{Step}
use Rattle.pickle_reach.specs.declared.spot.Step.TheVariants as step
use Rattle.pickle_reach.specs.declared.answer.Reach.{Reach}
use Rattle.pickle_reach.specs.declared.answer.Reach.TheVariants as answer
use Rattle.pickle_reach.specs.Item.{reaches, ends, names}

-- ---- one item

-- behind it
abbrev pub behind : Spot → Taken → Spot
behind s t = record { offset = s.offset + t.size; left = t.left; named = s.named || names t.op }

abbrev pub step_taken : Granted → Spot → Taken → Step
step_taken g s t = if reaches g s.named t.op then step.Reaches else if ends t.op then step.Ends else step.Goes (behind s t)

-- the same of an operation of so many bytes, behind which so many are in the buffer
abbrev pub step_of : Granted → Spot → Operation → ℕ → ℕ → Step
step_of g s o size left =
    if reaches g s.named o then step.Reaches
    else if ends o then step.Ends
    else step.Goes (record { offset = s.offset + size; left = left; named = s.named || names o })

abbrev pub step_by : Granted → Spot → Result Taken FrontFault → Step
step_by g s (Ok t) = step_taken g s t
step_by g s (Err f) = step.Ends

-- the item that a loader takes here which does this with frames
unfoldable pub step_at : Granted → List ℕ → Frames → Spot → Step
step_at g bytes f s = step_by g s (taken f s.left (drop s.offset bytes))

-- ---- items in turn

-- what a loader does with frames at an item, and whether what is in its buffer then is only shown
pub record Turn : Type 0 where
  pub frames : Frames
  pub shown : Bool

-- nothing of what is shown is lost: it is as if it were in no buffer
abbrev pub as_shown : Bool → Spot → Spot
as_shown true s = record s { left = 0 }
as_shown false s = s

abbrev pub first_spot : Spot
first_spot = record { offset = 0; left = 0; named = false }

abbrev pub reaches_on : Step → (Spot → Bool) → Bool
reaches_on step.Reaches more = true
reaches_on step.Ends more = false
reaches_on (step.Goes t) more = more t

-- a loader that does this, item by item, reaches something
unfoldable pub reaches_from : Granted → List ℕ → List Turn → Spot → Bool
reaches_from g bytes [] s = false
reaches_from g bytes (turn ∷ mix) s = reaches_on (step_at g bytes turn.frames s) (λ t. reaches_from g bytes mix (as_shown turn.shown t))

-- no loader does
abbrev pub NothingFrom : Granted → List ℕ → Spot → Type 0
NothingFrom g bytes s = (mix : List Turn) → reaches_from g bytes mix s ≡ false

abbrev pub stands_on : Step → (Spot → Option Spot) → Option Spot
stands_on step.Reaches more = None
stands_on step.Ends more = None
stands_on (step.Goes t) more = more t

-- where it stands after these items
unfoldable pub stands_from : Granted → List ℕ → List Turn → Spot → Option Spot
stands_from g bytes [] s = Some s
stands_from g bytes (turn ∷ mix) s = stands_on (step_at g bytes turn.frames s) (λ t. stands_from g bytes mix (as_shown turn.shown t))

-- a loader may stand there
abbrev pub MayStand : Granted → List ℕ → Spot → Type 0
MayStand g bytes s = (mix : List Turn) × (stands_from g bytes mix first_spot ≡ Some s)

-- ---- something is reached

-- a loader that stands there and does this with frames reaches something, and none does that stands at a lower offset
pub record IsFirst (g : Granted) (bytes : List ℕ) (spot : Spot) (frames : Frames) : Type 0 where
  pub within : spot.offset ≤ length bytes
  pub stands : MayStand g bytes spot
  pub reaches : step_at g bytes frames spot ≡ step.Reaches
  pub first : (other : Spot) → MayStand g bytes other → (f : Frames) → step_at g bytes f other ≡ step.Reaches → spot.offset ≤ other.offset

-- the operation that a loader takes which stands here and does this with frames
abbrev pub IsOpAt : List ℕ → Spot → Frames → Operation → Type 0
IsOpAt bytes s f o = (t : Taken) × (taken f s.left (drop s.offset bytes) ≡ Ok t) × (t.op ≡ o)

-- ---- nothing is

-- no loader reaches something, and this is the greatest offset at which one may stand; and where it is so said none does whatever bytes follow
pub record IsNone (g : Granted) (bytes : List ℕ) (offset : ℕ) (settled : Bool) : Type 0 where
  pub nothing : NothingFrom g bytes first_spot
  pub last : Spot
  pub last_is : last.offset ≡ offset
  pub stands : MayStand g bytes last
  pub greatest : (other : Spot) → MayStand g bytes other → other.offset ≤ offset
  pub whatever : settled ≡ true → (more : List ℕ) → NothingFrom g (bytes ++ more) first_spot

-- ---- there are too many ways

-- the most spots that may wait, and how many are looked at in so many bytes
abbrev pub most_waiting : ℕ
most_waiting = 256

abbrev pub most_visits : ℕ → ℕ
most_visits size = 4 * size + 1024

-- none is another
abbrev pub AreDistinct : List Spot → Type 0
AreDistinct spots = AllPairs (λ s t. s ≢ t) spots

-- a loader comes there by an item that begins at an offset or before it
pub record ComesFrom (g : Granted) (bytes : List ℕ) (offset : ℕ) (t : Spot) : Type 0 where
  pub from : Spot
  pub stands : MayStand g bytes from
  pub before : from.offset ≤ offset
  pub turn : Turn
  pub next : Spot
  pub goes : step_at g bytes turn.frames from ≡ step.Goes next
  pub is : t ≡ as_shown turn.shown next

-- it is a next spot once a loader came to an offset: there, or behind it, it is the first one, or such an item leads there
pub record IsNext (g : Granted) (bytes : List ℕ) (offset : ℕ) (t : Spot) : Type 0 where
  pub stands : MayStand g bytes t
  pub ahead : offset ≤ t.offset
  pub comes : (t ≡ first_spot) ⊎ ComesFrom g bytes offset t

-- from some offset there are more next spots than may wait
pub record WaitsMore (g : Granted) (bytes : List ℕ) : Type 0 where
  pub offset : ℕ
  pub spots : List Spot
  pub more : most_waiting < length spots
  pub distinct : AreDistinct spots
  pub next : All (IsNext g bytes offset) spots

-- or loaders may stand at as many spots as are looked at
pub record StandsOften (g : Granted) (bytes : List ℕ) : Type 0 where
  pub spots : List Spot
  pub many : length spots ≡ most_visits (length bytes)
  pub distinct : AreDistinct spots
  pub stand : All (MayStand g bytes) spots

-- ---- the answer

abbrev pub IsReach : Granted → List ℕ → Reach → Type 0
IsReach g bytes (answer.Nothing offset settled) = IsNone g bytes offset settled
IsReach g bytes (answer.At spot frames) = IsFirst g bytes spot frames
IsReach g bytes answer.TooMany = WaitsMore g bytes ⊎ StandsOften g bytes
