-- The text of a document, with what is behind its end.
use Rattle.std.proofs.Common.{◌≡◌, ℕ, Bool, true, false, List, [], ◌++◌, Option, Ok, refl, sym, ap, ◌∙◌}
use Rattle.std.specs.Prelude.{Result, Err, IfOk, IfErr, if◌then◌else◌}
use Rattle.pickle_io.specs.Text.{◌⧺◌}
use Rattle.pickle_io.specs.Device.{Told, Wrote, Broke}
use Rattle.pickle_io.proofs.Devices.{Wrote-trans, Broke-after, Broke-more}
use Rattle.pickle_doc.specs.Document.{Contents}
use Rattle.pickle_doc.specs.Place.{ops_of}
use Rattle.pickle_machine.specs.State.{State, start}
use Rattle.pickle_machine.specs.Run.{run}
use Rattle.pickle_text.specs.declared.stop.TextStop.{TextStop}
use Rattle.pickle_text.specs.declared.stop.TextStop.TheVariants as stop
use Rattle.pickle_calls.specs.declared.calls.Ran.{Ran}
use Rattle.pickle_calls.specs.Manner.{Manner, ending_in}
use Rattle.pickle_calls.specs.CallsLine.{ending_status}
use Rattle.pickle_calls.specs.CallsWritten.{CutsCalls}
use Rattle.pickle_calls.specs.Telling.{Telling}
use Rattle.pickle_calls.specs.Calls.{CallsEnd, calls_in, entries_in}
use Rattle.pickle_calls.specs.Ran.{IsRun}
use Rattle.pickle_calls.proofs.Walking.{run_whole, run_answers}
use Rattle.pickle_further.specs.declared.way.Pickles.{Pickles}
use Rattle.pickle_further.specs.declared.way.Pickles.TheVariants as pickles
use Rattle.pickle_further.specs.Leads.{first_leading, or_first, warned_status}
use Rattle.pickle_further.specs.Deep.{first_deep}
use Rattle.pickle_further.specs.Parts.{Wording, are_many, ignoring, text_from_in, is_open, lost_text_in, parts_to, parts_in}
use Rattle.pickle_further.specs.CallsText.{CutsText, leading_in, document_leads, deep_in, document_deep, document_warnings_in, document_calls_in, CompletesDocument, CutsDocument, CompletesTextIn, CutsCallsTextIn}
use Rattle.pickle_further.specs.Inside.{standing_behind}
use Rattle.pickle_further.proofs.Pieces.{nothing_written, cut_after, cut_before}

pub parts_are : (tell : Wording) {how : Manner} (p : Pickles) (bytes : List ℕ) (a b : Told) (s : State) (r : Ran) → (w : IsRun tell.telling how (are_many p) bytes a b s r)
    → parts_in tell how p w.d ≡ (if is_open r.ending then text_from_in tell how.holes (ignoring p) (standing_behind bytes s r) ++ lost_text_in tell how p bytes else [])
unfolding parts_in ◌⧺◌
parts_are tell {how = how} p bytes a b s r w =
    let ends : parts_in tell how p w.d ≡ parts_to tell how p w.d (record { place = r.place; ending = r.ending }) = ap (parts_to tell how p w.d) w.ends in
    ends ∙ rw (w.reached, w.offset, w.naming, sym w.reads.whole) refl

pub parts_open : (tell : Wording) {how : Manner} (p : Pickles) (bytes : List ℕ) (a b : Told) (s : State) (r : Ran) → (w : IsRun tell.telling how (are_many p) bytes a b s r) → is_open r.ending ≡ true
    → parts_in tell how p w.d ≡ text_from_in tell how.holes (ignoring p) (standing_behind bytes s r) ++ lost_text_in tell how p bytes
parts_open tell p bytes a b s r w is = parts_are tell p bytes a b s r w ∙ rw is refl

pub parts_closed : (tell : Wording) {how : Manner} (p : Pickles) (bytes : List ℕ) (a b : Told) (s : State) (r : Ran) → (w : IsRun tell.telling how (are_many p) bytes a b s r) → is_open r.ending ≡ false → parts_in tell how p w.d ≡ []
parts_closed tell p bytes a b s r w is = parts_are tell p bytes a b s r w ∙ rw is refl

-- ---- the whole

-- the imports of the lines are objects of the state behind them
pub leads_are : {say : Telling} {how : Manner} {many : Bool} (bytes : List ℕ) (a b : Told) (s : State) (r : Ran) → (w : IsRun say how many bytes a b s r) → document_leads w.d ≡ first_leading s.heap
unfolding document_leads
leads_are bytes a b s r w = ap (λ (e : CallsEnd). leading_in (run (start w.d.many) (ops_of w.d) e.place)) w.ends ∙ ap leading_in w.reached

pub deep_are : {say : Telling} {how : Manner} {many : Bool} (bytes : List ℕ) (a b : Told) (s : State) (r : Ran) → (w : IsRun say how many bytes a b s r) → document_deep w.d ≡ first_deep s.heap
unfolding document_deep
deep_are bytes a b s r w = ap (λ (e : CallsEnd). deep_in (run (start w.d.many) (ops_of w.d) e.place)) w.ends ∙ ap deep_in w.reached

warnings_are : (tell : Wording) {how : Manner} {many : Bool} (bytes : List ℕ) (a b : Told) (s : State) (r : Ran) → (w : IsRun tell.telling how many bytes a b s r) → document_warnings_in tell w.d ≡ tell.words.warning (first_leading s.heap) (first_deep s.heap)
warnings_are tell bytes a b s r w =
    ap (λ (x : Option ℕ). tell.words.warning x (document_deep w.d)) (leads_are bytes a b s r w) ∙ ap (tell.words.warning (first_leading s.heap)) (deep_are bytes a b s r w)

all_of : (tell : Wording) {how : Manner} (p : Pickles) (bytes : List ℕ) (a b : Told) (s : State) (r : Ran) → (w : IsRun tell.telling how (are_many p) bytes a b s r)
    → (document_calls_in tell how p w.d).text
    ≡ (((entries_in tell.telling how w.d r.place).text ++ tell.telling.last bytes r.course.imports r.course.calls (ending_in how.holes r.ending)) ++ tell.words.warning (first_leading s.heap) (first_deep s.heap)) ++ parts_in tell how p w.d
unfolding ◌⧺◌
all_of tell {how = how} p bytes a b s r w =
    ap (λ (t : List ℕ). ((calls_in tell.telling how w.d).text ++ t) ++ parts_in tell how p w.d) (warnings_are tell bytes a b s r w)
    ∙ ap (λ (t : List ℕ). (t ++ tell.words.warning (first_leading s.heap) (first_deep s.heap)) ++ parts_in tell how p w.d) (run_whole bytes a b s r w)

lines_cut : (tell : Wording) (how : Manner) (p : Pickles) (d : Contents) (a b : Told) (x : TextStop) → CutsText a b (calls_in tell.telling how d).text x → CutsText a b (((calls_in tell.telling how d).text ++ document_warnings_in tell d) ++ parts_in tell how p d) x
lines_cut tell how p d a b x w =
    cut_before a b ((calls_in tell.telling how d).text ++ document_warnings_in tell d) (parts_in tell how p d) x (cut_before a b (calls_in tell.telling how d).text (document_warnings_in tell d) x w)

pub first_cut : (tell : Wording) (how : Manner) (p : Pickles) (bytes : List ℕ) (a b : Told) (e : TextStop) → CutsCalls tell.telling how (are_many p) bytes a b e → CutsDocument tell how p bytes a b e
unfolding ◌⧺◌
first_cut tell how p bytes a b stop.Failed w = (w.0, w.1, lines_cut tell how p w.0 a b stop.Failed w.2)
first_cut tell how p bytes a b stop.Memory w = (w.0, w.1, lines_cut tell how p w.0 a b stop.Memory w.2)

pub end_cut : (tell : Wording) {how : Manner} (p : Pickles) (bytes : List ℕ) (a b c : Told) (s : State) (r : Ran) → IsRun tell.telling how (are_many p) bytes a b s r
    → Broke b c (tell.telling.last bytes r.course.imports r.course.calls (ending_in how.holes r.ending)) → CutsDocument tell how p bytes a c stop.Failed
end_cut tell {how = how} p bytes a b c s r w q =
    let t : List ℕ = (entries_in tell.telling how w.d r.place).text in
    let end : List ℕ = tell.telling.last bytes r.course.imports r.course.calls (ending_in how.holes r.ending) in
    let warning : List ℕ = tell.words.warning (first_leading s.heap) (first_deep s.heap) in
    (w.d, w.reads, rw (all_of tell p bytes a b s r w) (Broke-more a c ((t ++ end) ++ warning) (parts_in tell how p w.d) (Broke-more a c (t ++ end) warning (Broke-after a b c t end w.written q))))

-- all of these, and memory ran out
pub deep_cut : (tell : Wording) {how : Manner} (p : Pickles) (bytes : List ℕ) (a b c : Told) (s : State) (r : Ran) → IsRun tell.telling how (are_many p) bytes a b s r → Wrote b c (tell.telling.last bytes r.course.imports r.course.calls (ending_in how.holes r.ending))
    → CutsDocument tell how p bytes a c stop.Memory
deep_cut tell {how = how} p bytes a b c s r w q =
    let t : List ℕ = (entries_in tell.telling how w.d r.place).text in
    let end : List ℕ = tell.telling.last bytes r.course.imports r.course.calls (ending_in how.holes r.ending) in
    let warning : List ℕ = tell.words.warning (first_leading s.heap) (first_deep s.heap) in
    let cut : CutsText a c ((t ++ end) ++ warning) stop.Memory = cut_after a c c (t ++ end) warning stop.Memory (Wrote-trans a b c t end w.written q) (nothing_written c warning) in
    (w.d, w.reads, rw (all_of tell p bytes a b s r w) (cut_before a c ((t ++ end) ++ warning) (parts_in tell how p w.d) stop.Memory cut))

pub warning_cut : (tell : Wording) {how : Manner} (p : Pickles) (bytes : List ℕ) (a b c e : Told) (s : State) (r : Ran) (leads deep : Option ℕ) → IsRun tell.telling how (are_many p) bytes a b s r
    → Wrote b c (tell.telling.last bytes r.course.imports r.course.calls (ending_in how.holes r.ending)) → leads ≡ first_leading s.heap → deep ≡ first_deep s.heap → Broke c e (tell.words.warning leads deep) → CutsDocument tell how p bytes a e stop.Failed
warning_cut tell {how = how} p bytes a b c e s r leads deep w q is nests v =
    let t : List ℕ = (entries_in tell.telling how w.d r.place).text in
    let end : List ℕ = tell.telling.last bytes r.course.imports r.course.calls (ending_in how.holes r.ending) in
    let warning : List ℕ = tell.words.warning (first_leading s.heap) (first_deep s.heap) in
    let broken : Broke c e warning = rw (← is, ← nests) v in
    (w.d, w.reads, rw (all_of tell p bytes a b s r w) (Broke-more a e ((t ++ end) ++ warning) (parts_in tell how p w.d) (Broke-after a c e (t ++ end) warning (Wrote-trans a b c t end w.written q) broken)))

pub parts_cut : (tell : Wording) {how : Manner} (p : Pickles) (bytes : List ℕ) (a b c e z : Told) (s : State) (r : Ran) (leads deep : Option ℕ) (x : TextStop) → (w : IsRun tell.telling how (are_many p) bytes a b s r)
    → Wrote b c (tell.telling.last bytes r.course.imports r.course.calls (ending_in how.holes r.ending)) → leads ≡ first_leading s.heap → deep ≡ first_deep s.heap → Wrote c e (tell.words.warning leads deep) → CutsText e z (parts_in tell how p w.d) x
    → CutsDocument tell how p bytes a z x
parts_cut tell {how = how} p bytes a b c e z s r leads deep x w q is nests v k =
    let t : List ℕ = (entries_in tell.telling how w.d r.place).text in
    let end : List ℕ = tell.telling.last bytes r.course.imports r.course.calls (ending_in how.holes r.ending) in
    let warning : List ℕ = tell.words.warning (first_leading s.heap) (first_deep s.heap) in
    let warned : Wrote c e warning = rw (← is, ← nests) v in
    let front : Wrote a e ((t ++ end) ++ warning) = Wrote-trans a c e (t ++ end) warning (Wrote-trans a b c t end w.written q) warned in
    (w.d, w.reads, rw (all_of tell p bytes a b s r w) (cut_after a e z ((t ++ end) ++ warning) (parts_in tell how p w.d) x front k))

pub all_written : (tell : Wording) {how : Manner} (p : Pickles) (bytes : List ℕ) (a b c e z : Told) (s : State) (r : Ran) (leads deep : Option ℕ) (status : ℕ) → (w : IsRun tell.telling how (are_many p) bytes a b s r)
    → Wrote b c (tell.telling.last bytes r.course.imports r.course.calls (ending_in how.holes r.ending)) → status ≡ ending_status r.ending → leads ≡ first_leading s.heap → deep ≡ first_deep s.heap → Wrote c e (tell.words.warning leads deep)
    → Wrote e z (parts_in tell how p w.d) → CompletesDocument tell how p bytes a z (warned_status (or_first leads deep) status)
all_written tell {how = how} p bytes a b c e z s r leads deep status w q is led nests v k =
    let t : List ℕ = (entries_in tell.telling how w.d r.place).text in
    let end : List ℕ = tell.telling.last bytes r.course.imports r.course.calls (ending_in how.holes r.ending) in
    let warning : List ℕ = tell.words.warning (first_leading s.heap) (first_deep s.heap) in
    let warned : Wrote c e warning = rw (← led, ← nests) v in
    let front : Wrote a e ((t ++ end) ++ warning) = Wrote-trans a c e (t ++ end) warning (Wrote-trans a b c t end w.written q) warned in
    let same : warned_status (or_first leads deep) status ≡ warned_status (or_first (document_leads w.d) (document_deep w.d)) (calls_in tell.telling how w.d).status =
    ap (λ (x : Option ℕ). warned_status (or_first x deep) status) (led ∙ sym (leads_are bytes a b s r w))
    ∙ ap (λ (x : Option ℕ). warned_status (or_first (document_leads w.d) x) status) (nests ∙ sym (deep_are bytes a b s r w))
    ∙ ap (warned_status (or_first (document_leads w.d) (document_deep w.d))) (is ∙ sym (run_answers bytes a b s r w)) in
    (w.d, w.reads, rw (all_of tell p bytes a b s r w) (Wrote-trans a e z ((t ++ end) ++ warning) (parts_in tell how p w.d) front k), same)

-- ---- of bytes

pub first_ok : (tell : Wording) (how : Manner) (bytes : List ℕ) (a b : Told) (r : Result ℕ TextStop) → IfOk r (CompletesDocument tell how pickles.First bytes a b) → IfOk r (CompletesTextIn tell how pickles.First bytes a b)
first_ok tell how bytes a b (Ok x) h = (document_calls_in tell how pickles.First h.0, (h.0, h.1, refl), h.2, h.3)
first_ok tell how bytes a b (Err x) h = tt

pub first_err : (tell : Wording) (how : Manner) (bytes : List ℕ) (a b : Told) (r : Result ℕ TextStop) → IfErr r (CutsDocument tell how pickles.First bytes a b) → IfErr r (CutsCallsTextIn tell how pickles.First bytes a b)
first_err tell how bytes a b (Ok x) h = tt
first_err tell how bytes a b (Err x) h = (document_calls_in tell how pickles.First h.0, (h.0, h.1, refl), h.2)

pub all_ok : (tell : Wording) (how : Manner) (bytes : List ℕ) (a b : Told) (r : Result ℕ TextStop) → IfOk r (CompletesDocument tell how pickles.All bytes a b) → IfOk r (CompletesTextIn tell how pickles.All bytes a b)
all_ok tell how bytes a b (Ok x) h = (document_calls_in tell how pickles.All h.0, (h.0, h.1, refl), h.2, h.3)
all_ok tell how bytes a b (Err x) h = tt

pub all_err : (tell : Wording) (how : Manner) (bytes : List ℕ) (a b : Told) (r : Result ℕ TextStop) → IfErr r (CutsDocument tell how pickles.All bytes a b) → IfErr r (CutsCallsTextIn tell how pickles.All bytes a b)
all_err tell how bytes a b (Ok x) h = tt
all_err tell how bytes a b (Err x) h = (document_calls_in tell how pickles.All h.0, (h.0, h.1, refl), h.2)
