-- What is answered where the lines of JSON of what is imported and called by a file were to be written to a sink.
-- Source: own.
use Rattle.std.specs.Prelude.{◌≡◌, ◌<◌, ◌↔◌, ℕ, List, length, Option, Some, None, Result, Err, IfOk, IfErr}
use Rattle.pickle_io.specs.Text.{◌⧺◌}
use Rattle.pickle_io.specs.Device.{Told, Wrote}
use Rattle.pickle_io.specs.declared.hole.Hole.{Hole}
use Rattle.pickle_io.specs.Holes.{first_outside, without}
use Rattle.pickle_doc.specs.Document.{size_limit}
use Rattle.pickle_text.specs.Output.{Output}
use Rattle.pickle_calls.specs.Manner.{Manner}
use Rattle.pickle_text.specs.declared.stop.TextStop.{TextStop}
use Rattle.pickle_text.specs.declared.stop.TextStop.TheVariants as cut
use Rattle.pickle_further.specs.declared.way.Pickles.{Pickles}
use Rattle.pickle_further.specs.CallsText.{CutsText}
use Rattle.calls_json.specs.LastFields.{hole_line, status_line}
use Rattle.calls_json.specs.Told.{IsCallsLines}
use Rattle.pickle_script.specs.declared.stop.Stop.{Stop}
use Rattle.pickle_script.specs.declared.stop.Stop.TheVariants as stop

-- the lines and the status: those of what is left, with the offsets of the file; or the line of a hole and the last one
abbrev pub IsLinesLeft : Manner → Pickles → List ℕ → Option Hole → Output → Type 0
IsLinesLeft how pickles bytes (Some h) o = o ≡ record { text = hole_line h (length bytes) ⧺ status_line 1; status = 1 }
IsLinesLeft how pickles bytes None o = IsCallsLines how pickles (without how.holes bytes) o

abbrev pub IsLinesOfFile : Manner → Pickles → List ℕ → Output → Type 0
IsLinesOfFile how pickles bytes o = IsLinesLeft how pickles bytes (first_outside (length bytes) how.holes) o

-- they were written, and this is the status
abbrev pub CompletesFile : Manner → Pickles → List ℕ → Told → Told → ℕ → Type 0
CompletesFile how pickles bytes old new status = (o : Output) × IsLinesOfFile how pickles bytes o × Wrote old new o.text × (status ≡ o.status)

-- a beginning of them was written, and then the sink failed, or memory ran out
abbrev pub CutsFile : Manner → Pickles → List ℕ → Told → Told → TextStop → Type 0
CutsFile how pickles bytes old new e = (o : Output) × IsLinesOfFile how pickles bytes o × CutsText old new o.text e

abbrev pub StopsFile : Manner → Pickles → List ℕ → Told → Told → Stop → Type 0
StopsFile how pickles bytes old new stop.Read = ⊥
StopsFile how pickles bytes old new stop.Write = CutsFile how pickles bytes old new cut.Failed
StopsFile how pickles bytes old new stop.TooLarge = new ≡ old
StopsFile how pickles bytes old new stop.Memory = CutsFile how pickles bytes old new cut.Memory

pub record AnswersCallsLines (how : Manner) (pickles : Pickles) (bytes : List ℕ) {S : Type 0} (told : S → Told) (old new : S) (answer : Result ℕ Stop) : Type 0 where
  pub whole : IfOk answer (CompletesFile how pickles bytes (told old) (told new))
  pub stopped : IfErr answer (StopsFile how pickles bytes (told old) (told new))
  pub too_large : (answer ≡ Err stop.TooLarge) ↔ (size_limit < length bytes)
  pub untouched : answer ≡ Err stop.TooLarge → new ≡ old
