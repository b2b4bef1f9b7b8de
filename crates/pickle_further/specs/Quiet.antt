-- Bytes of which no loader that keeps frames in a buffer loses any, and at which none part.
-- Source: own.
use Rattle.std.specs.Prelude.{◌≡◌, ℕ, ◌+◌, ◌<◌, ◌≤◌, Bool, true, false, List, length, drop, None, Ok, Err, ⊤}
use Rattle.pickle_ops.specs.declared.fault.FrontFault.{FrontFault}
use Rattle.pickle_lenient.specs.declared.pass.Passed.{Passed}
use Rattle.pickle_lenient.specs.declared.taken.Frames.{Frames}
use Rattle.pickle_lenient.specs.declared.taken.Frames.TheVariants as frames
use Rattle.pickle_lenient.specs.declared.taken.Taken.{Taken}
use Rattle.pickle_lenient.specs.Stream.{taken}
use Rattle.pickle_further.specs.declared.quiet.Passing.{Passing}
use Rattle.pickle_further.specs.declared.quiet.Passing.TheVariants as passing
use Rattle.pickle_further.specs.declared.seek.Sought.{Sought}
use Rattle.pickle_further.specs.declared.seek.Sought.TheVariants as sought
use Rattle.pickle_further.specs.declared.way.Way.{Way}
use Rattle.pickle_further.specs.Splits.{splits}
use Rattle.pickle_further.specs.Going.{Standing, search}

-- frames are kept in a buffer
abbrev pub keeps_frames : Frames → Bool
keeps_frames frames.Ignored = false
keeps_frames frames.Buffered = true
keeps_frames frames.Held = true

-- what is looked for is about frames
abbrev pub is_of_frames : Sought → Bool
is_of_frames sought.Event = false
is_of_frames sought.Lost = true
is_of_frames sought.Split = true

-- wherever these bytes are next, with so many of them in the buffer: no item loses bytes, and none parts loaders, whatever the machine does
abbrev pub IsQuiet : ℕ → List ℕ → Type 0
IsQuiet left rest = (x : Sought) (n : ℕ) (w : Way) (p : Standing) → is_of_frames x ≡ true → keeps_frames w.frames ≡ true → p.rest ≡ rest → p.at.left ≡ left → search x n w p ≡ None

-- ---- one item

-- nothing is taken
pub record EndsAlike (f : Frames) (left : ℕ) (bytes : List ℕ) : Type 0 where
  pub fault : FrontFault
  pub is : taken f left bytes ≡ Err fault
  pub alike : splits f left bytes ≡ false

-- an item is taken, and none of the bytes is lost
pub record GoesAlike (f : Frames) (left : ℕ) (bytes : List ℕ) (to : Passed) : Type 0 where
  pub item : Taken
  pub is : taken f left bytes ≡ Ok item
  pub whole : item.lost ≡ false
  pub alike : splits f left bytes ≡ false
  pub size : item.size ≡ to.size
  pub left_over : item.left ≡ to.left
  pub some : 0 < to.size
  pub within : to.size + to.left ≤ length bytes

abbrev pub IsPassing : Frames → ℕ → List ℕ → Passing → Type 0
IsPassing f left bytes passing.Ends = EndsAlike f left bytes
IsPassing f left bytes (passing.Goes to) = GoesAlike f left bytes to
IsPassing f left bytes passing.Parts = ⊤

-- the same of all loaders that keep frames in a buffer
abbrev pub IsPassingAll : ℕ → List ℕ → Passing → Type 0
IsPassingAll left bytes p = (f : Frames) → keeps_frames f ≡ true → IsPassing f left bytes p

-- what both come to, if it is the same
abbrev pub IsBoth : Passing → Passing → Passing → Type 0
IsBoth one other passing.Parts = ⊤
IsBoth one other passing.Ends = (one ≡ passing.Ends) × (other ≡ passing.Ends)
IsBoth one other (passing.Goes to) = (one ≡ passing.Goes to) × (other ≡ passing.Goes to)

-- ---- where frames are ignored

-- loaders take nothing of these bytes
abbrev pub TakesNothing : List ℕ → Type 0
TakesNothing rest = (f : FrontFault) × (taken frames.Ignored 0 rest ≡ Err f)
