-- The texts that are written of an input, and what is left of one that is not finished.
-- Source: own.
use Rattle.std.specs.Prelude.{◌≡◌, ◌<◌, ◌↔◌, ℕ, Bool, false, List, length, codes, decimal, Option, Some, None, Result, Err, IfOk, IfErr}
use Rattle.pickle_io.specs.Text.{◌⧺◌}
use Rattle.pickle_io.specs.Device.{Told, Wrote}
use Rattle.pickle_doc.specs.Document.{Contents, size_limit}
use Rattle.pickle_text.specs.Output.{Output, Completes, Breaks, Begins}
use Rattle.pickle_list.specs.Listing.{listing}
use Rattle.pickle_list.specs.Written.{IsListed}
use Rattle.whole_listing.specs.WholeArgs.{whole_listing, IsListedWhole}
use Rattle.object_texts.specs.Report.{IsReported, BreaksReport}
use Rattle.pickle_io.specs.declared.hole.Hole.{Hole}
use Rattle.pickle_io.specs.Holes.{first_outside, without}
use Rattle.pickle_text.specs.Column.{newline}
use Rattle.pickle_calls.specs.Manner.{Manner, whole}
use Rattle.pickle_text.specs.declared.stop.TextStop.{TextStop}
use Rattle.pickle_text.specs.declared.stop.TextStop.TheVariants as cut
use Rattle.pickle_further.specs.declared.way.Pickles.{Pickles}
use Rattle.pickle_further.specs.CallsText.{CutsText}
use Rattle.mixes_text.specs.CallsWith.{IsCalls, CompletesCalls, CutsCalls}
use Rattle.pickle_script.specs.FormText.{form_output}
use Rattle.pickle_script.specs.GateText.{WroteText}
use Rattle.pickle_script.specs.ReachText.{IsReachText, StopsReach}
use Rattle.pickle_script.specs.declared.stop.Stop.{Stop}
use Rattle.pickle_script.specs.declared.stop.Stop.TheVariants as stop
use Rattle.pickle_script.specs.declared.texts.written.Text.{Text}
use Rattle.pickle_script.specs.declared.texts.written.Text.TheVariants as text

-- ---- whole

-- the text of the document that the bytes read as was written, and this is its status
abbrev pub CompletesText : Text → Bool → Bool → List ℕ → Told → Told → ℕ → Type 0
CompletesText text.Listing many loose bytes old new status = IsListed many loose bytes old new status
CompletesText text.Whole many loose bytes old new status = IsListedWhole many loose bytes old new status
CompletesText text.Objects many loose bytes old new status = IsReported many loose bytes old new status
CompletesText text.Form many loose bytes old new status = Completes form_output false false bytes old new status
CompletesText (text.Reach granted) many loose bytes old new status = WroteText (IsReachText granted bytes) old new status
CompletesText (text.Calls pickles detail) many loose bytes old new status = CompletesCalls (whole detail) pickles bytes old new status

-- ---- not finished

-- what a stop leaves of a text that is written as it is found: a beginning, and only Write is a failure of the sink. Nothing is read
abbrev pub Stops : (Contents → Output) → Bool → Bool → List ℕ → Told → Told → Stop → Type 0
Stops output many loose bytes old new stop.Read = ⊥
Stops output many loose bytes old new stop.Write = Breaks output many loose bytes old new
Stops output many loose bytes old new stop.TooLarge = Begins output many loose bytes old new
Stops output many loose bytes old new stop.Memory = Begins output many loose bytes old new

-- what it leaves of a report, which is written once all is run: a beginning where the sink failed, and else nothing was written
abbrev pub StopsReport : Bool → Bool → List ℕ → Told → Told → Stop → Type 0
StopsReport many loose bytes old new stop.Read = ⊥
StopsReport many loose bytes old new stop.Write = BreaksReport many loose bytes old new
StopsReport many loose bytes old new stop.TooLarge = new ≡ old
StopsReport many loose bytes old new stop.Memory = new ≡ old

-- what is left of the form, which is said once all is read: a beginning where the sink failed, and nothing where memory ran out
abbrev pub CutsForm : List ℕ → Told → Told → TextStop → Type 0
CutsForm bytes old new cut.Failed = Breaks form_output false false bytes old new
CutsForm bytes old new cut.Memory = new ≡ old

abbrev pub StopsForm : List ℕ → Told → Told → Stop → Type 0
StopsForm bytes old new stop.Read = ⊥
StopsForm bytes old new stop.Write = CutsForm bytes old new cut.Failed
StopsForm bytes old new stop.TooLarge = CutsForm bytes old new cut.Memory
StopsForm bytes old new stop.Memory = CutsForm bytes old new cut.Memory

-- what it leaves of what is imported and called: as of a listing
abbrev pub StopsCalls : Manner → Pickles → List ℕ → Told → Told → Stop → Type 0
StopsCalls how pickles bytes old new stop.Read = ⊥
StopsCalls how pickles bytes old new stop.Write = CutsCalls how pickles bytes old new cut.Failed
StopsCalls how pickles bytes old new stop.TooLarge = CutsCalls how pickles bytes old new cut.Memory
StopsCalls how pickles bytes old new stop.Memory = CutsCalls how pickles bytes old new cut.Memory

abbrev pub StopsText : Text → Bool → Bool → List ℕ → Told → Told → Stop → Type 0
StopsText text.Listing many loose bytes old new e = Stops listing many loose bytes old new e
StopsText text.Whole many loose bytes old new e = Stops whole_listing many loose bytes old new e
StopsText text.Objects many loose bytes old new e = StopsReport many loose bytes old new e
StopsText text.Form many loose bytes old new e = StopsForm bytes old new e
StopsText (text.Reach granted) many loose bytes old new e = StopsReach granted bytes old new e
StopsText (text.Calls pickles detail) many loose bytes old new e = StopsCalls (whole detail) pickles bytes old new e

-- ---- the answer

-- what is answered where a text was to be written to a sink, of which `told` says what it reports
pub record AnswersText (text : Text) (many loose : Bool) (bytes : List ℕ) {S : Type 0} (told : S → Told) (old new : S) (answer : Result ℕ Stop) : Type 0 where
  pub whole : IfOk answer (CompletesText text many loose bytes (told old) (told new))
  -- Write comes only where the sink has failed, Memory only where it has not, and Read never
  pub stopped : IfErr answer (StopsText text many loose bytes (told old) (told new))
  -- too many bytes, and only those, are refused before anything is written
  pub too_large : (answer ≡ Err stop.TooLarge) ↔ (size_limit < length bytes)
  pub untouched : answer ≡ Err stop.TooLarge → new ≡ old

-- ---- of what is left of a file without its holes

unfoldable pub hole_text : Hole → List ℕ
hole_text h = codes "hole " ⧺ decimal h.offset ⧺ codes ":" ⧺ decimal h.size

unfoldable pub outside_words : List ℕ
outside_words = codes " ends behind the last of "

-- the line of a hole that does not lie within the file
unfoldable pub outside_line : Hole → ℕ → List ℕ
outside_line h size = codes "refused: " ⧺ hole_text h ⧺ outside_words ⧺ decimal size ⧺ codes " bytes" ⧺ newline

-- the text and the status: those of what is left, with the offsets of the file; or the line of a hole
abbrev pub IsCallsLeft : Manner → Pickles → List ℕ → Option Hole → Output → Type 0
IsCallsLeft how pickles bytes (Some h) o = o ≡ record { text = outside_line h (length bytes); status = 1 }
IsCallsLeft how pickles bytes None o = IsCalls how pickles (without how.holes bytes) o

abbrev pub IsCallsOfFile : Manner → Pickles → List ℕ → Output → Type 0
IsCallsOfFile how pickles bytes o = IsCallsLeft how pickles bytes (first_outside (length bytes) how.holes) o

abbrev pub CompletesFile : Manner → Pickles → List ℕ → Told → Told → ℕ → Type 0
CompletesFile how pickles bytes old new status = (o : Output) × IsCallsOfFile how pickles bytes o × Wrote old new o.text × (status ≡ o.status)

-- a beginning of it was written, and then the sink failed, or memory ran out
abbrev pub CutsFile : Manner → Pickles → List ℕ → Told → Told → TextStop → Type 0
CutsFile how pickles bytes old new e = (o : Output) × IsCallsOfFile how pickles bytes o × CutsText old new o.text e

abbrev pub StopsFile : Manner → Pickles → List ℕ → Told → Told → Stop → Type 0
StopsFile how pickles bytes old new stop.Read = ⊥
StopsFile how pickles bytes old new stop.Write = CutsFile how pickles bytes old new cut.Failed
StopsFile how pickles bytes old new stop.TooLarge = new ≡ old
StopsFile how pickles bytes old new stop.Memory = CutsFile how pickles bytes old new cut.Memory

-- what is answered where the text of what is imported and called by a file was to be written to a sink
pub record AnswersCalls (how : Manner) (pickles : Pickles) (bytes : List ℕ) {S : Type 0} (told : S → Told) (old new : S) (answer : Result ℕ Stop) : Type 0 where
  pub whole : IfOk answer (CompletesFile how pickles bytes (told old) (told new))
  pub stopped : IfErr answer (StopsFile how pickles bytes (told old) (told new))
  pub too_large : (answer ≡ Err stop.TooLarge) ↔ (size_limit < length bytes)
  pub untouched : answer ≡ Err stop.TooLarge → new ≡ old
