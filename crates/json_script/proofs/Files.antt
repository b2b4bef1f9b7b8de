-- What is answered of a file with holes.
use Rattle.std.proofs.Common.{◌≡◌, ℕ, ◌<◌, List, length, Some, Err, refl}
use Rattle.pickle_io.specs.Text.{◌⧺◌}
use Rattle.pickle_io.specs.Device.{Told, Wrote, Broke}
use Rattle.pickle_io.specs.declared.hole.Hole.{Hole}
use Rattle.pickle_io.specs.Holes.{first_outside}
use Rattle.pickle_doc.specs.Document.{size_limit}
use Rattle.pickle_text.specs.Output.{Output}
use Rattle.pickle_calls.specs.Manner.{Manner}
use Rattle.pickle_text.specs.declared.stop.TextStop.TheVariants as cut
use Rattle.pickle_further.specs.declared.way.Pickles.{Pickles}
use Rattle.calls_json.specs.LastFields.{hole_line, status_line}
use Rattle.pickle_script.specs.declared.stop.Stop.TheVariants as stop
use Rattle.json_script.specs.CallsLines.{IsLinesOfFile, CompletesFile, CutsFile, AnswersCallsLines}

abbrev outside : Hole → List ℕ → Output
outside h bytes = record { text = hole_line h (length bytes) ⧺ status_line 1; status = 1 }

outside_is : (how : Manner) (p : Pickles) (bytes : List ℕ) (h : Hole) → first_outside (length bytes) how.holes ≡ Some h → IsLinesOfFile how p bytes (outside h bytes)
outside_is how p bytes h e = rw e refl

pub outside_broke : (how : Manner) (p : Pickles) (bytes : List ℕ) (h : Hole) (a b : Told) → first_outside (length bytes) how.holes ≡ Some h
    → Broke a b (hole_line h (length bytes) ⧺ status_line 1) → CutsFile how p bytes a b cut.Failed
outside_broke how p bytes h a b e q = (outside h bytes, outside_is how p bytes h e, q)

pub outside_wrote : (how : Manner) (p : Pickles) (bytes : List ℕ) (h : Hole) (a b : Told) → first_outside (length bytes) how.holes ≡ Some h
    → Wrote a b (hole_line h (length bytes) ⧺ status_line 1) → CompletesFile how p bytes a b 1
outside_wrote how p bytes h a b e q = (outside h bytes, outside_is how p bytes h e, q, refl)

pub file_too_large : {S : Type 0} (told : S → Told) (how : Manner) (p : Pickles) (bytes : List ℕ) (sink : S) → size_limit < length bytes
    → AnswersCallsLines how p bytes told sink sink (Err stop.TooLarge)
file_too_large told how p bytes sink large = record { whole = tt; stopped = refl; too_large = ((λ _. large), (λ _. refl)); untouched = λ _. refl }
