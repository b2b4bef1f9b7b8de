-- Texts that are written piece by piece.
use Rattle.std.proofs.Common.{◌≡◌, ℕ, true, false, List, ◌++◌, refl, sym, ap, ◌∙◌, append_assoc}
use Rattle.std.specs.Prelude.{Result, Ok, Err, IsErrAnd}
use Rattle.pickle_io.specs.Device.{Told, Wrote}
use Rattle.pickle_io.proofs.Devices.{Wrote-trans, Broke-after, Broke-more, WroteAllBut-none}
use Rattle.pickle_doc.specs.Document.{AreBytes}
use Rattle.pickle_doc.proofs.Existence.{some_document}
use Rattle.pickle_calls.specs.Manner.{Manner}
use Rattle.pickle_text.specs.Output.{Output}
use Rattle.pickle_text.specs.declared.stop.TextStop.{TextStop}
use Rattle.pickle_text.specs.declared.stop.TextStop.TheVariants as stop
use Rattle.pickle_further.specs.declared.way.Pickles.{Pickles}
use Rattle.pickle_further.specs.declared.way.Pickles.TheVariants as pickles
use Rattle.pickle_further.specs.Parts.{Wording}
use Rattle.pickle_further.specs.CallsText.{CutsText, PutsText, IsCallsTextIn, CutsCallsTextIn, document_calls_in, kept_calls_in}

-- nothing is written yet
pub nothing_written : (a : Told) (text : List ℕ) → CutsText a a text stop.Memory
nothing_written a text = (text, WroteAllBut-none a text)

some_text : (tell : Wording) (how : Manner) (p : Pickles) (bytes : List ℕ) → AreBytes bytes → (o : Output) × IsCallsTextIn tell how p bytes o
some_text tell how pickles.First bytes are = let d = some_document false false bytes are in (document_calls_in tell how pickles.First d.0, (d.0, d.1, refl))
some_text tell how pickles.All bytes are = let d = some_document true false bytes are in (document_calls_in tell how pickles.All d.0, (d.0, d.1, refl))
some_text tell how pickles.OneMemo bytes are = (kept_calls_in tell how bytes, refl)

pub no_text_yet : (tell : Wording) (how : Manner) (p : Pickles) (bytes : List ℕ) (a : Told) → AreBytes bytes → CutsCallsTextIn tell how p bytes a a stop.Memory
no_text_yet tell how p bytes a are = let o = some_text tell how p bytes are in (o.0, o.1, nothing_written a o.0.text)

-- ---- a text of pieces

pub cut_after : (a b c : Told) (front text : List ℕ) (x : TextStop) → Wrote a b front → CutsText b c text x → CutsText a c (front ++ text) x
cut_after a b c front text stop.Failed q w = Broke-after a b c front text q w
cut_after a b c front text stop.Memory q w = (w.0, record { front = front ++ w.1.front; parts = ap (λ (t : List ℕ). front ++ t) w.1.parts ∙ sym (append_assoc front w.1.front w.0); wrote = Wrote-trans a b c front w.1.front q w.1.wrote })

-- nothing more is written: what is left was written, or cut short
pub pieces : {A : Type 0} (a b c : Told) (front text : List ℕ) (r : Result A TextStop) → Wrote a b front → PutsText b c text r → PutsText a c (front ++ text) r
pieces a b c front text (Ok x) q w = Wrote-trans a b c front text q w
pieces a b c front text (Err e) q w = cut_after a b c front text e q w

-- a piece is cut short
pub cut_before : (a b : Told) (text more : List ℕ) (x : TextStop) → CutsText a b text x → CutsText a b (text ++ more) x
cut_before a b text more stop.Failed w = Broke-more a b text more w
cut_before a b text more stop.Memory w = (w.0 ++ more, record { front = w.1.front; parts = ap (λ (t : List ℕ). t ++ more) w.1.parts ∙ append_assoc w.1.front w.0 more; wrote = w.1.wrote })

-- what a `?` answers where a piece is cut short
pub stopped : {A : Type 0} (a b : Told) (text : List ℕ) (x : TextStop) (r : Result A TextStop) → IsErrAnd r (λ y. y ≡ x) → CutsText a b text x → PutsText a b text r
stopped a b text x (Ok y) h w = absurd h
stopped a b text x (Err y) h w = rw h w

pub memory_first : (a : Told) (text : List ℕ) (x : TextStop) → x ≡ stop.Memory → CutsText a a text x
memory_first a text x is = rw is (nothing_written a text)
