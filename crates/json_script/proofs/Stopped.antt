-- What is answered where there are too many bytes, or lines that are written once all is read.
use Rattle.std.proofs.Common.{◌≡◌, ℕ, ◌<◌, Bool, List, length, Ok, Err, refl}
use Rattle.std.specs.Prelude.{Result, IfErr, IsErrAnd}
use Rattle.pickle_io.specs.Device.{Told}
use Rattle.pickle_io.proofs.Devices.{WroteAllBut-none}
use Rattle.pickle_doc.specs.Document.{AreBytes, size_limit}
use Rattle.pickle_doc.proofs.Existence.{some_document}
use Rattle.pickle_text.specs.Output.{Output}
use Rattle.pickle_text.specs.declared.stop.TextStop.{TextStop}
use Rattle.pickle_json.specs.Listing.{listing}
use Rattle.pickle_script.specs.declared.stop.Stop.TheVariants as stop
use Rattle.json_script.specs.Once.{CutsOnce}
use Rattle.json_script.specs.Answer.{StopsLines, AnswersLines}
use Rattle.json_script.specs.declared.lines.Lines.{Lines}
use Rattle.json_script.specs.declared.lines.Lines.TheVariants as lines

-- nothing is a beginning of any listing
nothing_left : (l : Lines) (many loose : Bool) (bytes : List ℕ) (a : Told) → AreBytes bytes → StopsLines l many loose bytes a a stop.TooLarge
nothing_left lines.Listing many loose bytes a small =
    let some = some_document many loose bytes small in
    (some.0, some.1, ((listing some.0).text, WroteAllBut-none a (listing some.0).text))
nothing_left lines.Objects many loose bytes a small = refl
nothing_left lines.Form many loose bytes a small = refl
nothing_left (lines.Reach granted) many loose bytes a small = refl

pub refused_large : {S : Type 0} (told : S → Told) (l : Lines) (many loose : Bool) (bytes : List ℕ) (sink : S) → AreBytes bytes → size_limit < length bytes
    → AnswersLines l many loose bytes told sink sink (Err stop.TooLarge)
refused_large told l many loose bytes sink small large = record {
  whole = tt;
  stopped = nothing_left l many loose bytes (told sink) small;
  too_large = ((λ _. large), (λ _. refl));
  untouched = λ _. refl;
}

-- the error of a `?` is passed on as it is
pub once_cut : (Is : Output → Type 0) (a b : Told) (x : TextStop) (r : Result ℕ TextStop) → IsErrAnd r (λ e. e ≡ x) → CutsOnce Is a b x → IfErr r (CutsOnce Is a b)
once_cut Is a b x (Ok status) h w = absurd h
once_cut Is a b x (Err e) h w = rw h w
