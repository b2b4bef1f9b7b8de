-- That the places which are found are exactly those at which some mix may stand and act.
-- Source: own.
use Rattle.std.specs.Prelude.{◌≡◌, ℕ, if◌then◌else◌, Bool, true, false, List, [], ◌∷◌, All, Contains, Option, Some, None, Result, Ok, Err}
use Rattle.pickle_ops.specs.declared.fault.FrontFault.{FrontFault}
use Rattle.pickle_lenient.specs.declared.taken.Frames.{Frames}
use Rattle.pickle_lenient.specs.declared.taken.Taken.{Taken}
use Rattle.pickle_mixes.specs.declared.place.Place.{Place}
use Rattle.pickle_mixes.specs.Acting.{first_place, item_at, place_behind, acts_at, is_over, acting_places}

-- ---- mixes

-- what a loader does with frames at an item, and whether what is in its buffer then is only shown: of that nothing is lost
pub record Turn : Type 0 where
  pub frames : Frames
  pub shown : Bool

abbrev pub left_of : Bool → ℕ → ℕ
left_of true left = 0
left_of false left = left

-- behind the item that it takes, if it goes on there
abbrev pub behind_item : Bool → Place → Bool → Result Taken FrontFault → Option Place
behind_item many p shown (Ok t) = if is_over many t.op then None else Some (place_behind p t.size (left_of shown t.left))
behind_item many p shown (Err f) = None

abbrev pub on_from : Option Place → (Place → Option Place) → Option Place
on_from None go = None
on_from (Some p) go = go p

-- where it stands after these items
unfoldable pub stands_from : Bool → List ℕ → List Turn → Place → Option Place
stands_from many bytes [] p = Some p
stands_from many bytes (turn ∷ mix) p = on_from (behind_item many p turn.shown (item_at bytes turn.frames p)) (λ q. stands_from many bytes mix q)

-- a loader may stand there
abbrev pub MayStand : Bool → List ℕ → Place → Type 0
MayStand many bytes p = (mix : List Turn) × (stands_from many bytes mix first_place ≡ Some p)

-- ---- laws

-- at each place that is found a loader may stand, and act
abbrev pub PlacesAreStoodAt : Type 0
PlacesAreStoodAt = (many : Bool) (bytes : List ℕ) (found : List Place) → acting_places many bytes ≡ Some found → All (λ (p : Place). MayStand many bytes p × (acts_at bytes p ≡ true)) found

-- and each such place is found
abbrev pub PlacesAreFound : Type 0
PlacesAreFound = (many : Bool) (bytes : List ℕ) (found : List Place) → acting_places many bytes ≡ Some found → (p : Place) → MayStand many bytes p → acts_at bytes p ≡ true → Contains found p
