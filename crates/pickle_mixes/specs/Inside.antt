-- What the walk over places keeps.
use Rattle.std.specs.Prelude.{◌≡◌, ℕ, ◌+◌, ◌≤◌, Bool, List, length, All}
use Rattle.pickle_lenient.specs.declared.taken.Frames.{Frames}
use Rattle.pickle_mixes.specs.declared.place.Place.{Place}
use Rattle.pickle_mixes.specs.Acting.{item_at, acts_by, acts_at, with_way, with_next}

-- what is in the buffer is within the bytes
abbrev pub IsIn : List ℕ → Place → Type 0
IsIn bytes p = p.offset + p.left ≤ length bytes

-- a place was looked at where this is done with frames, and the places behind it were added
pub record LookedBy (many : Bool) (bytes : List ℕ) (p : Place) (f : Frames) (old new : List Place) (acts : Bool) : Type 0 where
  pub does : acts ≡ acts_by p (item_at bytes f p)
  pub next : new ≡ with_way many bytes p f old
  pub within : All (IsIn bytes) old → All (IsIn bytes) new

-- whatever is done with them
pub record IsLooked (many : Bool) (bytes : List ℕ) (p : Place) (old new : List Place) (acts : Bool) : Type 0 where
  pub does : acts ≡ acts_at bytes p
  pub next : new ≡ with_next many bytes p old
  pub within : All (IsIn bytes) old → All (IsIn bytes) new
