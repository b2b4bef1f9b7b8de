-- Bytes are read as one document, whose run ends in one way.
use Rattle.std.proofs.Common.{◌≡◌, ℕ, ◌+◌, ◌<◌, ◌≤◌, ◌^◌, Bool, false, List, length, slice_get, Option, Some, None, refl, sym, ap, subst, ◌∙◌, arith}
use Rattle.pickle_ops.specs.Spelling.{Operation}
use Rattle.pickle_ops.specs.Object.{Object}
use Rattle.pickle_doc.specs.Document.{Contents, items_of, ReadsIn, AreBytes, size_limit}
use Rattle.pickle_doc.specs.Place.{ops_of}
use Rattle.pickle_doc.proofs.Existence.{one_document}
use Rattle.pickle_machine.specs.State.{State, start}
use Rattle.pickle_machine.specs.Run.{run}
use Rattle.pickle_text.specs.declared.closing.Closing.{Closing}
use Rattle.pickle_text.specs.declared.closing.Closing.TheVariants as closing
use Rattle.pickle_text.specs.Closing.{closing_status}
use Rattle.object_texts.specs.Report.{Closes, report_text, IsReport}
use Rattle.object_texts.specs.Inside.Ending.{EndsIn}
use Rattle.object_texts.proofs.Reports.{one_report}
use Rattle.same_objects.specs.declared.compared.Compared.{Compared}
use Rattle.same_objects.specs.declared.compared.Compared.TheVariants as compared
use Rattle.pickle_calls.specs.declared.end.Ending.{Ending}
use Rattle.pickle_calls.specs.declared.naming.Detail.TheVariants as detail
use Rattle.pickle_calls.specs.Manner.{whole}
use Rattle.pickle_calls.specs.Calls.{entries_in, calls_end}
use Rattle.same_objects.specs.Acts.{by_numbers, Acts}
use Rattle.same_objects.specs.Same.{Makes, at_end, Does, SameObjects, EndsEarly, Compares}
use Rattle.same_objects.specs.Laws.{EachIsItsOwn, SameHaveOneReport, OneComparison}

some_same : {A : Type 0} (o : Option A) (a b : A) → o ≡ Some a → o ≡ Some b → a ≡ b
some_same None a b e f = absurd cc
some_same (Some x) a b e f = cc

-- ---- documents

one_reading : (many : Bool) (bytes : List ℕ) → AreBytes bytes → length bytes ≤ size_limit → (d e : Contents) → ReadsIn many false bytes d → ReadsIn many false bytes e → d ≡ e
one_reading many bytes are few d e r s =
    let one = one_document many false bytes are (omega (arith, few)) in
    sym (one.2 d r) ∙ one.2 e s

-- how the run of a document ends
abbrev pub DocumentEnds : Contents → State → Closing → Type 0
DocumentEnds d s c = (place : ℕ) × (run (start d.many) (ops_of d) place ≡ Some s) × Closes d place s c

ends_of : (many : Bool) (bytes : List ℕ) → AreBytes bytes → length bytes ≤ size_limit → (d : Contents) (s : State) (c : Closing) → ReadsIn many false bytes d → EndsIn many false bytes s c → DocumentEnds d s c
ends_of many bytes are few d s c r (e, reads, ends) =
    subst (λ (x : Contents). DocumentEnds x s c) (one_reading many bytes are few e d reads r) ends

report_of : (d : Contents) (s : State) (c : Closing) → DocumentEnds d s c → IsReport d (report_text s.heap s.results c) (closing_status c)
report_of d s c (place, reached, closes) = record { place = place; state = s; closing = c; reached = reached; closes = closes; lines = refl; answers = refl }

-- what a document does
abbrev acts_text : Contents → List ℕ
acts_text d = (entries_in by_numbers (whole detail.Cut) d (calls_end d).place).text

-- ---- one end

-- a run that ends by STOP leaves one state
one_made : (d : Contents) (s t : State) → DocumentEnds d s closing.Stopped → DocumentEnds d t closing.Stopped → s ≡ t
one_made d s t (p, reached, closes) (q, again, ends) =
    let place : q ≡ p = ends.0 ∙ sym closes.0 in
    some_same (run (start d.many) (ops_of d) p) s t reached (ap (run (start d.many) (ops_of d)) (sym place) ∙ again)

-- and does not end in another way
other_status : (c : Closing) → (c ≡ closing.Stopped → ⊥) → closing_status c ≡ 1
other_status closing.Stopped h = absurd (h refl)
other_status (closing.Refused place r) h = refl
other_status (closing.Fault f offset) h = refl

not_early : (many : Bool) (bytes : List ℕ) → AreBytes bytes → length bytes ≤ size_limit → (s : State) (c : Closing) → Makes many bytes s → EndsEarly many bytes c → ⊥
not_early many bytes are few s c (d, reads, ends) (h, (t, early)) =
    let one = one_report d (report_text s.heap s.results closing.Stopped) (report_text t.heap t.results c) 0 (closing_status c)
    (report_of d s closing.Stopped ends) (report_of d t c (ends_of many bytes are few d t c reads early)) in
    let no : 0 ≡ 1 = one.1 ∙ other_status c h in
    absurd (omega (arith, no))

made_same : (many : Bool) (bytes : List ℕ) → AreBytes bytes → length bytes ≤ size_limit → (s t : State) → Makes many bytes s → Makes many bytes t → s ≡ t
made_same many bytes are few s t (d, reads, ends) m = one_made d s t ends (ends_of many bytes are few d t closing.Stopped reads m)

-- what bytes do, and how that ends
one_acts : (many : Bool) (bytes : List ℕ) → AreBytes bytes → length bytes ≤ size_limit → (a b : List ℕ) (e f : Ending) → Acts many bytes a e → Acts many bytes b f → (a ≡ b) × (e ≡ f)
one_acts many bytes are few a b e f (d, reads, lines, ends) (x, again, others, stops) =
    let same = one_reading many bytes are few d x reads again in
    (lines ∙ ap (λ (y : Contents). acts_text y) same ∙ sym others, ends ∙ ap (λ (y : Contents). (calls_end y).ending) same ∙ sym stops)

-- ---- the laws

pub each_own : EachIsItsOwn
each_own many bytes s acts m a = record { first = s; second = s; makes = m; remakes = m; objects = refl; results = refl; acts = acts; does = a; redoes = a }

pub one_text : SameHaveOneReport
one_text many one other are few more less same d e rd re text again status last x y =
    let s = same.first in
    let t = same.second in
    let a = one_report d text (report_text s.heap s.results closing.Stopped) status 0 x (report_of d s closing.Stopped (ends_of many one are few d s closing.Stopped rd same.makes)) in
    let b = one_report e again (report_text t.heap t.results closing.Stopped) last 0 y (report_of e t closing.Stopped (ends_of many other more less e t closing.Stopped re same.remakes)) in
    let heaps : report_text s.heap s.results closing.Stopped ≡ report_text t.heap t.results closing.Stopped =
    ap (λ (h : List Object). report_text h s.results closing.Stopped) same.objects ∙ ap (λ (r : List ℕ). report_text t.heap r closing.Stopped) same.results in
    (a.0 ∙ heaps ∙ sym b.0, a.1 ∙ sym b.1)

pub alone : OneComparison
alone many one other are few more less same compared.Same h = refl
alone many one other are few more less same (compared.FirstEnds c) h = absurd (not_early many one are few same.first c same.makes h)
alone many one other are few more less same (compared.OtherEnds c) h = absurd (not_early many other more less same.second c same.remakes h)
alone many one other are few more less same (compared.Object n) (s, t, m, k, first) =
    let a : s ≡ same.first = made_same many one are few s same.first m same.makes in
    let b : t ≡ same.second = made_same many other more less t same.second k same.remakes in
    let heaps : s.heap ≡ t.heap = ap (λ (x : State). x.heap) a ∙ same.objects ∙ sym (ap (λ (x : State). x.heap) b) in
    absurd (first.differs (ap (λ (h : List Object). slice_get h n) heaps))
alone many one other are few more less same compared.Results (s, t, m, k, (heaps, differ)) =
    let a : s ≡ same.first = made_same many one are few s same.first m same.makes in
    let b : t ≡ same.second = made_same many other more less t same.second k same.remakes in
    absurd (differ (ap (λ (x : State). x.results) a ∙ same.results ∙ sym (ap (λ (x : State). x.results) b)))
alone many one other are few more less same (compared.FirstGoesOn e) (h, (acts, does)) =
    absurd (h (one_acts many one are few acts same.acts e at_end does same.does).1)
alone many one other are few more less same (compared.OtherGoesOn e) (h, (acts, does)) =
    absurd (h (one_acts many other more less acts same.acts e at_end does same.redoes).1)
alone many one other are few more less same compared.Order (a, b, does, redoes, differ) =
    let x : a ≡ same.acts = (one_acts many one are few a same.acts at_end at_end does same.does).0 in
    let y : b ≡ same.acts = (one_acts many other more less b same.acts at_end at_end redoes same.redoes).0 in
    absurd (differ (x ∙ sym y))
