-- What is answered where there are too many bytes.
use Rattle.std.proofs.Common.{◌≡◌, ℕ, ◌<◌, Bool, List, true, false, length, Some, Ok, Err, refl}
use Rattle.std.specs.Prelude.{Result, IfErr, IsErrAnd}
use Rattle.pickle_io.specs.Device.{Told, Wrote, Broke}
use Rattle.pickle_io.proofs.Devices.{WroteAllBut-none}
use Rattle.pickle_doc.specs.Document.{Contents, AreBytes, size_limit}
use Rattle.pickle_doc.proofs.Existence.{some_document}
use Rattle.pickle_text.specs.Output.{Output, Begins}
use Rattle.pickle_list.specs.Listing.{listing}
use Rattle.whole_listing.specs.WholeArgs.{whole_listing}
use Rattle.pickle_further.specs.declared.way.Pickles.{Pickles}
use Rattle.pickle_further.specs.declared.way.Pickles.TheVariants as pickles
use Rattle.pickle_further.specs.CallsText.{document_calls, kept_calls}
use Rattle.mixes_text.specs.MixText.{mixes_for_people, with_mixes}
use Rattle.mixes_text.specs.CallsWith.{CutsCalls}
use Rattle.pickle_calls.specs.Manner.{Manner, whole}
use Rattle.pickle_text.specs.declared.stop.TextStop.TheVariants as cut
use Rattle.pickle_script.specs.declared.stop.Stop.{Stop}
use Rattle.pickle_script.specs.declared.stop.Stop.TheVariants as stop
use Rattle.pickle_script.specs.declared.texts.written.Text.{Text}
use Rattle.pickle_script.specs.declared.texts.written.Text.TheVariants as text
use Rattle.pickle_io.specs.declared.hole.Hole.{Hole}
use Rattle.pickle_io.specs.Holes.{first_outside}
use Rattle.pickle_script.specs.Output.{StopsText, AnswersText, outside_line, IsCallsOfFile, CompletesFile, CutsFile, AnswersCalls}

-- nothing is a beginning of any text
nothing_written : (output : Contents → Output) (many loose : Bool) (bytes : List ℕ) (a : Told) → AreBytes bytes → Begins output many loose bytes a a
nothing_written output many loose bytes a small =
    let some = some_document many loose bytes small in
    (some.0, some.1, ((output some.0).text, WroteAllBut-none a (output some.0).text))

no_calls : (how : Manner) (p : Pickles) (bytes : List ℕ) (a : Told) → AreBytes bytes → CutsCalls how p bytes a a cut.Memory
no_calls how pickles.First bytes a small =
    let some = some_document false false bytes small in
    let x = document_calls how pickles.First some.0 in
    let o = with_mixes mixes_for_people how pickles.First bytes x in
    (o, (x, (some.0, some.1, refl), refl), (o.text, WroteAllBut-none a o.text))
no_calls how pickles.All bytes a small =
    let some = some_document true false bytes small in
    let x = document_calls how pickles.All some.0 in
    let o = with_mixes mixes_for_people how pickles.All bytes x in
    (o, (x, (some.0, some.1, refl), refl), (o.text, WroteAllBut-none a o.text))
no_calls how pickles.OneMemo bytes a small =
    let x = kept_calls how bytes in
    let o = with_mixes mixes_for_people how pickles.OneMemo bytes x in
    (o, (x, refl, refl), (o.text, WroteAllBut-none a o.text))

nothing_left : (t : Text) (many loose : Bool) (bytes : List ℕ) (a : Told) → AreBytes bytes → StopsText t many loose bytes a a stop.TooLarge
nothing_left text.Listing many loose bytes a small = nothing_written listing many loose bytes a small
nothing_left text.Whole many loose bytes a small = nothing_written whole_listing many loose bytes a small
nothing_left text.Objects many loose bytes a small = refl
nothing_left text.Form many loose bytes a small = refl
nothing_left (text.Reach granted) many loose bytes a small = refl
nothing_left (text.Calls pickles detail) many loose bytes a small = no_calls (whole detail) pickles bytes a small

pub refused_large : {S : Type 0} (told : S → Told) (t : Text) (many loose : Bool) (bytes : List ℕ) (sink : S) → AreBytes bytes → size_limit < length bytes
    → AnswersText t many loose bytes told sink sink (Err stop.TooLarge)
refused_large told t many loose bytes sink small large = record {
  whole = tt;
  stopped = nothing_left t many loose bytes (told sink) small;
  too_large = ((λ _. large), (λ _. refl));
  untouched = λ _. refl;
}

-- ---- of a file with holes

pub stopped_so : {A : Type 0} (P : Stop → Type 0) (x : Stop) (r : Result A Stop) → IsErrAnd r (λ e. e ≡ x) → P x → IfErr r P
stopped_so P x (Ok y) h w = absurd h
stopped_so P x (Err e) h w = rw h w

abbrev outside : Hole → List ℕ → Output
outside h bytes = record { text = outside_line h (length bytes); status = 1 }

outside_is : (how : Manner) (p : Pickles) (bytes : List ℕ) (h : Hole) → first_outside (length bytes) how.holes ≡ Some h → IsCallsOfFile how p bytes (outside h bytes)
outside_is how p bytes h e = rw e refl

pub outside_broke : (how : Manner) (p : Pickles) (bytes : List ℕ) (h : Hole) (a b : Told) → first_outside (length bytes) how.holes ≡ Some h → Broke a b (outside_line h (length bytes))
    → CutsFile how p bytes a b cut.Failed
outside_broke how p bytes h a b e q = (outside h bytes, outside_is how p bytes h e, q)

pub outside_wrote : (how : Manner) (p : Pickles) (bytes : List ℕ) (h : Hole) (a b : Told) → first_outside (length bytes) how.holes ≡ Some h → Wrote a b (outside_line h (length bytes))
    → CompletesFile how p bytes a b 1
outside_wrote how p bytes h a b e q = (outside h bytes, outside_is how p bytes h e, q, refl)

pub file_too_large : {S : Type 0} (told : S → Told) (how : Manner) (p : Pickles) (bytes : List ℕ) (sink : S) → size_limit < length bytes
    → AnswersCalls how p bytes told sink sink (Err stop.TooLarge)
file_too_large told how p bytes sink large = record { whole = tt; stopped = refl; too_large = ((λ _. large), (λ _. refl)); untouched = λ _. refl }
