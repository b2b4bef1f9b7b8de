-- Holes that are given, and what is left without any.
use Rattle.std.proofs.Common.{◌≡◌, ◌∙◌, ℕ, ◌+◌, List, [], ◌∷◌, ◌++◌, Result, Ok, Err, refl, ap, subst}
use Rattle.std.specs.Prelude.{IfOk, OnOk}
use Rattle.pickle_io.specs.Device.{Told}
use Rattle.pickle_io.specs.declared.hole.Hole.{Hole}
use Rattle.pickle_io.specs.Holes.{end_of, without_from}
use Rattle.pickle_calls.specs.declared.naming.Detail.{Detail}
use Rattle.pickle_calls.specs.Manner.{manner, whole}
use Rattle.pickle_further.specs.declared.way.Pickles.{Pickles}
use Rattle.mixes_text.specs.CallsWith.{CompletesCalls}
use Rattle.pickle_script.specs.Output.{CompletesFile}
use Rattle.calls_json.specs.Told.{CompletesLines}
use Rattle.json_script.specs.CallsLines as calls_lines

-- the last hole is the one that was added
pub end_last : (from : ℕ) (holes : List Hole) (h : Hole) → end_of from (holes ++ h ∷ []) ≡ h.offset + h.size
end_last from [] h = refl
end_last from (g ∷ holes) h = end_last (g.offset + g.size) holes h

pub end_added : {A E : Type 0} (r : Result A E) (old new : List Hole) (h : Hole) → IfOk r (λ _. new ≡ old ++ h ∷ []) → OnOk r (end_of 0 new ≡ h.offset + h.size)
end_added (Ok x) old new h e = ap (end_of 0) e ∙ end_last 0 old h
end_added (Err x) old new h e = tt

-- without holes all of a file is left
pub all_left : (detail : Detail) (p : Pickles) (bytes : List ℕ) (old new : Told) (status : ℕ) → CompletesCalls (whole detail) p bytes old new status
    → CompletesFile (manner detail []) p bytes old new status
unfolding without_from
all_left detail p bytes old new status c = c

pub all_lines_left : (detail : Detail) (holes : List Hole) (p : Pickles) (bytes : List ℕ) (old new : Told) (status : ℕ) → holes ≡ []
    → CompletesLines (manner detail holes) p bytes old new status → calls_lines.CompletesFile (manner detail holes) p bytes old new status
unfolding without_from
all_lines_left detail holes p bytes old new status none c = rw none (subst (λ (hs : List Hole). CompletesLines (manner detail hs) p bytes old new status) none c)
