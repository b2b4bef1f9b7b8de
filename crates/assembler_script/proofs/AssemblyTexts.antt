-- The bytes that a text is assembled to, or why there are none.
use Rattle.std.proofs.Common.{◌≡◌, ℕ, List, inl, inr, Some, Ok, Err, refl, subst}
use Rattle.std.specs.Prelude.{Result, IsErrAnd}
use Rattle.pickle_io.specs.Device.{Told, Wrote, Broke}
use Rattle.pickle_text.specs.Output.{Output}
use Rattle.assembly_labels.specs.declared.refusal.LabelRefusal.{LabelRefusal}
use Rattle.assembly_labels.specs.Labelled.{AssemblesLabelled, RefusesLabelled}
use Rattle.assembler_script.specs.AssemblyText.{assembled_output, refused_output, IsAssemblyText, AnswersAssembly}
use Rattle.pickle_script.specs.declared.stop.Stop.{Stop}
use Rattle.pickle_script.specs.declared.stop.Stop.TheVariants as stop

assembled : (text bytes : List ℕ) → AssemblesLabelled text bytes → IsAssemblyText text (assembled_output bytes)
assembled text bytes a = inl (record { bytes = bytes; assembles = a; text_is = refl })

pub refused : (text : List ℕ) (why : LabelRefusal) (o : Output) → RefusesLabelled text why → refused_output why ≡ Some o → IsAssemblyText text o
refused text why o a e = inr (record { refusal = why; refused = a; text_is = e })

pub all_wrote : {S : Type 0} (text : List ℕ) (o : Output) (told : S → Told) (a b : S) → IsAssemblyText text o → Wrote (told a) (told b) o.text → AnswersAssembly text told a b (Ok o.status)
all_wrote text o told a b is w = record { whole = (o, is, w, refl); stopped = tt; fits = λ e. absurd cc }

pub some_wrote : {S : Type 0} (text : List ℕ) (o : Output) (told : S → Told) (a b : S) (answer : Result ℕ Stop) → IsErrAnd answer (λ e. e ≡ stop.Write) → IsAssemblyText text o
    → Broke (told a) (told b) o.text → AnswersAssembly text told a b answer
some_wrote text o told a b (Ok status) h is w = absurd h
some_wrote text o told a b (Err e) h is w = rw h (record { whole = tt; stopped = (o, is, w); fits = λ e. absurd cc })

-- without memory nothing was written
pub no_room : {S : Type 0} (text : List ℕ) (told : S → Told) (a : S) → AnswersAssembly text told a a (Err stop.Memory)
no_room text told a = record { whole = tt; stopped = refl; fits = λ e. absurd cc }

-- the bytes that are written are those that were assembled
pub bytes_wrote : {S : Type 0} (text bytes shown : List ℕ) (told : S → Told) (a b : S) → AssemblesLabelled text bytes → shown ≡ bytes → Wrote (told a) (told b) shown → AnswersAssembly text told a b (Ok 0)
bytes_wrote text bytes shown told a b z same w =
    all_wrote text (assembled_output bytes) told a b (assembled text bytes z) (subst (λ (x : List ℕ). Wrote (told a) (told b) x) same w)

pub bytes_broke : {S : Type 0} (text bytes shown : List ℕ) (told : S → Told) (a b : S) (answer : Result ℕ Stop) → IsErrAnd answer (λ e. e ≡ stop.Write) → AssemblesLabelled text bytes
    → shown ≡ bytes → Broke (told a) (told b) shown → AnswersAssembly text told a b answer
bytes_broke text bytes shown told a b answer h z same w =
    some_wrote text (assembled_output bytes) told a b answer h (assembled text bytes z) (subst (λ (x : List ℕ). Broke (told a) (told b) x) same w)
