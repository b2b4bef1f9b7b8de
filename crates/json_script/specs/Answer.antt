-- What is answered where lines of JSON about an input were to be written to a sink, of which `told` says what it reports.
-- Source: own.
use Rattle.std.specs.Prelude.{◌≡◌, ◌<◌, ◌↔◌, ℕ, Bool, List, length, Result, Err, IfOk, IfErr}
use Rattle.pickle_io.specs.Device.{Told}
use Rattle.pickle_doc.specs.Document.{size_limit}
use Rattle.pickle_json.specs.Listing.{listing}
use Rattle.pickle_json.specs.Written.{IsListed}
use Rattle.objects_json.specs.Objects.{IsObjects}
use Rattle.pickle_script.specs.GateText.{WroteText}
use Rattle.pickle_script.specs.Output.{Stops}
use Rattle.pickle_script.specs.declared.stop.Stop.{Stop}
use Rattle.pickle_script.specs.declared.stop.Stop.TheVariants as stop
use Rattle.json_script.specs.Once.{StopsOnce}
use Rattle.json_script.specs.FormLine.{IsFormLine}
use Rattle.json_script.specs.ReachLine.{IsReachLine}
use Rattle.json_script.specs.declared.lines.Lines.{Lines}
use Rattle.json_script.specs.declared.lines.Lines.TheVariants as lines

-- all lines were written, and this is their status: the listing of the document that the bytes read as, the objects that it makes, whether the
-- one pickle that they are is in the form that picklers write, or whether a loader of them reaches something
abbrev pub CompletesLines : Lines → Bool → Bool → List ℕ → Told → Told → ℕ → Type 0
CompletesLines lines.Listing many loose bytes old new status = IsListed many loose bytes old new status
CompletesLines lines.Objects many loose bytes old new status = WroteText (IsObjects many loose bytes) old new status
CompletesLines lines.Form many loose bytes old new status = WroteText (IsFormLine bytes) old new status
CompletesLines (lines.Reach granted) many loose bytes old new status = WroteText (IsReachLine granted bytes) old new status

-- what a stop leaves of them: of a listing, which is written as it is found, a beginning
abbrev pub StopsLines : Lines → Bool → Bool → List ℕ → Told → Told → Stop → Type 0
StopsLines lines.Listing many loose bytes old new e = Stops listing many loose bytes old new e
StopsLines lines.Objects many loose bytes old new e = StopsOnce (IsObjects many loose bytes) old new e
StopsLines lines.Form many loose bytes old new e = StopsOnce (IsFormLine bytes) old new e
StopsLines (lines.Reach granted) many loose bytes old new e = StopsOnce (IsReachLine granted bytes) old new e

pub record AnswersLines (l : Lines) (many loose : Bool) (bytes : List ℕ) {S : Type 0} (told : S → Told) (old new : S) (answer : Result ℕ Stop) : Type 0 where
  pub whole : IfOk answer (CompletesLines l many loose bytes (told old) (told new))
  -- Write comes only where the sink has failed, Memory only where it has not, and Read never
  pub stopped : IfErr answer (StopsLines l many loose bytes (told old) (told new))
  -- too many bytes, and only those, are refused before anything is written
  pub too_large : (answer ≡ Err stop.TooLarge) ↔ (size_limit < length bytes)
  pub untouched : answer ≡ Err stop.TooLarge → new ≡ old
