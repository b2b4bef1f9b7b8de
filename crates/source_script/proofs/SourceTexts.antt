-- The source was written, or a beginning of it.
use Rattle.std.proofs.Common.{◌≡◌, ℕ, Bool, List, length, Ok, Err, refl}
use Rattle.std.specs.Prelude.{Result, IsErrAnd}
use Rattle.std.specs.BTreeMap.{BTreeMap}
use Rattle.pickle_io.specs.Device.{Told, Wrote, Broke}
use Rattle.pickle_machine.specs.State.{State}
use Rattle.pickle_text.specs.Output.{Output}
use Rattle.pickle_text.specs.Closing.{closing_status}
use Rattle.pickle_text.specs.declared.closing.Closing.{Closing}
use Rattle.pickle_source.specs.declared.fact.Fact.{Fact}
use Rattle.pickle_source.specs.declared.act.Act.{Act}
use Rattle.pickle_source.specs.Tale.{TaleOf}
use Rattle.source_literals.specs.declared.floats.FloatText.{FloatText}
use Rattle.source_literals.specs.Floats.{AreRead}
use Rattle.source_script.specs.SourceText.{behind, whole_source, IsSourceText, AnswersSource}
use Rattle.pickle_script.specs.declared.stop.Stop.{Stop}
use Rattle.pickle_script.specs.declared.stop.Stop.TheVariants as stop

-- the text and the status of a tale
abbrev output_of : Bool → BTreeMap ℕ FloatText → List ℕ → State → List Fact → List Act → Closing → Output
output_of loose texts bytes s facts acts c = record { text = whole_source loose texts (behind (length bytes) acts c) s facts acts c; status = closing_status c }

text_is : (many loose : Bool) (bytes : List ℕ) (texts : BTreeMap ℕ FloatText) (s : State) (facts : List Fact) (acts : List Act) (c : Closing)
    → TaleOf many loose bytes s facts acts c → AreRead texts → IsSourceText many loose bytes (output_of loose texts bytes s facts acts c)
text_is many loose bytes texts s facts acts c tale read = record { state = s; facts = facts; acts = acts; closing = c; texts = texts; tale = tale; read = read; text_is = refl }

pub all_wrote : {S : Type 0} (many loose : Bool) (bytes : List ℕ) (texts : BTreeMap ℕ FloatText) (s : State) (facts : List Fact) (acts : List Act) (c : Closing) (told : S → Told) (a b : S) (status : ℕ)
    → TaleOf many loose bytes s facts acts c → AreRead texts → status ≡ closing_status c
    → Wrote (told a) (told b) (whole_source loose texts (behind (length bytes) acts c) s facts acts c) → AnswersSource many loose bytes told a b (Ok status)
all_wrote many loose bytes texts s facts acts c told a b status tale read same w =
    record { whole = (output_of loose texts bytes s facts acts c, text_is many loose bytes texts s facts acts c tale read, w, same); stopped = tt; fits = λ e. absurd cc }

pub some_wrote : {S : Type 0} (many loose : Bool) (bytes : List ℕ) (texts : BTreeMap ℕ FloatText) (s : State) (facts : List Fact) (acts : List Act) (c : Closing) (told : S → Told) (a b : S) (answer : Result ℕ Stop)
    → IsErrAnd answer (λ e. e ≡ stop.Write) → TaleOf many loose bytes s facts acts c → AreRead texts
    → Broke (told a) (told b) (whole_source loose texts (behind (length bytes) acts c) s facts acts c) → AnswersSource many loose bytes told a b answer
some_wrote many loose bytes texts s facts acts c told a b (Ok status) e tale read w = absurd e
some_wrote many loose bytes texts s facts acts c told a b (Err x) e tale read w =
    rw e (record { whole = tt; stopped = (output_of loose texts bytes s facts acts c, text_is many loose bytes texts s facts acts c tale read, w); fits = λ y. absurd cc })

-- without memory nothing was written
pub no_room : {S : Type 0} (many loose : Bool) (bytes : List ℕ) (told : S → Told) (a : S) (answer : Result ℕ Stop) → IsErrAnd answer (λ e. e ≡ stop.Memory) → AnswersSource many loose bytes told a a answer
no_room many loose bytes told a (Ok status) e = absurd e
no_room many loose bytes told a (Err x) e = rw e (record { whole = tt; stopped = refl; fits = λ y. absurd cc })
