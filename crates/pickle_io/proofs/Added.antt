-- A hole more.
use Rattle.std.proofs.Common.{◌≡◌, ℕ, ◌+◌, ◌-◌, List, [], ◌∷◌, ◌++◌, length, refl, ap}
use Rattle.pickle_io.specs.declared.hole.Hole.{Hole}
use Rattle.pickle_io.specs.Holes.{IsHole, AreHoles, end_of, left_out, places_from}

pub more_holes : (from : ℕ) (holes : List Hole) (h : Hole) → AreHoles from holes → IsHole (end_of from holes) h → AreHoles from (holes ++ h ∷ [])
more_holes from [] h are is = (is, tt)
more_holes from (g ∷ holes) h are is = (are.0, more_holes (g.offset + g.size) holes h are.1 is)

pub more_places : (out : ℕ) (holes : List Hole) (h : Hole) → places_from out (holes ++ h ∷ []) ≡ places_from out holes ++ (h.offset - left_out out (length holes) holes) ∷ []
more_places out [] h = refl
more_places out (g ∷ holes) h = ap (λ (xs : List ℕ). (g.offset - out) ∷ xs) (more_places (out + g.size) holes h)
