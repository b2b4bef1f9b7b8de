-- The two halves of how two byte strings compare: by their objects, and by what they do. These are no definitions of what is the same.
use Rattle.std.specs.Prelude.{ℕ, Bool, List}
use Rattle.same_objects.specs.declared.compared.Compared.{Compared}
use Rattle.same_objects.specs.declared.compared.Compared.TheVariants as compared
use Rattle.same_objects.specs.Same.{Does, BothMake, EndsEarly, GoesOn, DoOther}

-- by their objects and results
abbrev pub ComparesObjects : Bool → List ℕ → List ℕ → Compared → Type 0
ComparesObjects many one other (compared.FirstEnds c) = EndsEarly many one c
ComparesObjects many one other (compared.OtherEnds c) = EndsEarly many other c
ComparesObjects many one other c = BothMake many one other c

-- by what they do
abbrev pub ComparesActs : Bool → List ℕ → List ℕ → Compared → Type 0
ComparesActs many one other compared.Same = (acts : List ℕ) × Does many one acts × Does many other acts
ComparesActs many one other (compared.FirstGoesOn e) = GoesOn many one e
ComparesActs many one other (compared.OtherGoesOn e) = GoesOn many other e
ComparesActs many one other compared.Order = DoOther many one other
ComparesActs many one other _ = ⊥
