-- How what a document would import and call is told: which text each event has, and which the end. What is told, and in which order, is the
-- same however it is told.
-- Source: own.
use Rattle.std.specs.Prelude.{◌≡◌, refl, ℕ, List, [], Option, None}
use Rattle.pickle_ops.specs.Object.{Object}
use Rattle.pickle_calls.specs.declared.end.Ending.{Ending}
use Rattle.pickle_calls.specs.declared.event.Event.{Event}
use Rattle.pickle_calls.specs.declared.naming.Naming.{Naming}
use Rattle.pickle_calls.specs.CallsLine.{line_of, calls_end_text}

pub record Telling : Type 0 where
  -- of a step at this offset, by how names are read and by the objects after it
  pub line : ℕ → Naming → List Object → Option Event → List ℕ
  -- nothing where it has no event
  pub silent : (offset : ℕ) (m : Naming) (heap : List Object) → line offset m heap None ≡ []
  -- of these bytes, which so many imports and calls come from, and how their reading ended
  pub last : List ℕ → ℕ → ℕ → Ending → List ℕ

-- as lines for people
abbrev pub for_people : Telling
for_people = record { line = line_of; silent = λ offset m heap. refl; last = calls_end_text }
