-- A document has one report.
use Rattle.std.proofs.Common.{◌≡◌, ℕ, zero, suc, ◌<◌, ◌≤◌, List, length, slice_get, Option, Some, None, refl, sym, ap, subst, ◌∙◌, arith, inl, inr, eq-or-lt_of_le, le_of_suc-le-suc, not-suc-le-zero}
use Rattle.std.specs.Result.{result_ok}
use Rattle.std.proofs.lemmas.Bool.{cases_lt}
use Rattle.std.proofs.lemmas.List.{length-map}
use Rattle.std.proofs.lemmas.Option.{slice_get_past, slice_get_within}
use Rattle.pickle_ops.specs.Spelling.{Operation}
use Rattle.pickle_doc.specs.declared.item.Item.{Item}
use Rattle.pickle_doc.specs.declared.fault.End.TheVariants as end
use Rattle.pickle_doc.specs.Document.{Contents, items_of}
use Rattle.pickle_doc.specs.Place.{ops_of, item_at}
use Rattle.pickle_machine.specs.declared.refusal.Refusal.{Refusal}
use Rattle.pickle_machine.specs.State.{State, start}
use Rattle.pickle_machine.specs.Move.{next, outcome, refusal_at}
use Rattle.pickle_machine.specs.Run.{after, run}
use Rattle.pickle_text.specs.declared.closing.Closing.{Closing}
use Rattle.pickle_text.specs.declared.closing.Closing.TheVariants as closing
use Rattle.pickle_text.specs.Closing.{closing_status, refused_on}
use Rattle.object_texts.specs.Report.{report_text, Closes, OneReport}
use Rattle.pickle_text.proofs.Runs.{run_after}

-- ---- what a run that goes on says of the items that it went over

is_none : (r : Option Refusal) (s t : State) → result_ok (outcome r s) ≡ Some t → r ≡ None
is_none None s t e = refl
is_none (Some r) s t e = absurd cc

-- the item that was stepped over is there, the state before it too, and it was not refused
record Stepped (x : Option Operation) (y : Option State) : Type 0 where
  item : Operation
  there : x ≡ Some item
  before : State
  reached : y ≡ Some before
  taken : refusal_at item before ≡ None

stepped : (x : Option Operation) (y : Option State) (n : ℕ) (t : State) → after x n y ≡ Some t → Stepped x y
stepped None y n t e = absurd cc
stepped (Some o) None n t e = absurd cc
stepped (Some o) (Some s) n t e = record { item = o; there = refl; before = s; reached = refl; taken = is_none (refusal_at o s) (next o n s) t e }

-- of each place that a run went over
stepped_at : (from : State) (ops : List Operation) (n i : ℕ) (t : State) → run from ops n ≡ Some t → i < n → Stepped (slice_get ops i) (run from ops i)
stepped_at from ops zero i t e h = absurd (not-suc-le-zero h)
stepped_at from ops (suc n) i t e h =
    let p : Stepped (slice_get ops n) (run from ops n) = stepped (slice_get ops n) (run from ops n) n t (run_after from ops n t e) in
    elim (eq-or-lt_of_le (le_of_suc-le-suc h)) [
      | inl q ↦ subst (λ (j : ℕ). Stepped (slice_get ops j) (run from ops j)) (sym q) p
      | inr l ↦ stepped_at from ops n i p.before p.reached l
    ]

-- ---- closings

some_same : {A : Type 0} (o : Option A) (a b : A) → o ≡ Some a → o ≡ Some b → a ≡ b
some_same None a b e f = absurd cc
some_same (Some x) a b e f = cc

-- after the last item none is refused
none_behind : (d : Contents) (place : ℕ) (s : State) (r : Refusal) → place ≡ length (items_of d) → refused_on (item_at d place) s ≡ Some r → ⊥
none_behind d place s r e h =
    let far : item_at d place ≡ None = slice_get_past (ops_of d) place (omega (arith, e, length-map (items_of d) (λ (i : Item). i.op))) in
    let no : None ≡ Some r = ap (λ (x : Option Operation). refused_on x s) (sym far) ∙ h in
    absurd cc

-- a run closes where it cannot go on
no_further : (d : Contents) (place : ℕ) (s : State) (c : Closing) → Stepped (item_at d place) (run (start d.many) (ops_of d) place) → run (start d.many) (ops_of d) place ≡ Some s → Closes d place s c → ⊥
no_further d place s closing.Stopped p e h =
    let within : place < length (ops_of d) = slice_get_within (ops_of d) place p.item p.there in
    absurd (omega (arith, within, h.0, length-map (items_of d) (λ (i : Item). i.op)))
no_further d place s (closing.Fault f offset) p e h =
    let within : place < length (ops_of d) = slice_get_within (ops_of d) place p.item p.there in
    absurd (omega (arith, within, h.0, length-map (items_of d) (λ (i : Item). i.op)))
no_further d place s (closing.Refused k r) p e h =
    let same : p.before ≡ s = some_same (run (start d.many) (ops_of d) place) p.before s p.reached e in
    let taken : refusal_at p.item s ≡ None = ap (λ (t : State). refusal_at p.item t) (sym same) ∙ p.taken in
    let no : None ≡ Some r = sym taken ∙ ap (λ (x : Option Operation). refused_on x s) (sym p.there) ∙ h.1 in
    absurd cc

one_closing : (d : Contents) (place : ℕ) (s : State) (b c : Closing) → Closes d place s b → Closes d place s c → b ≡ c
one_closing d place s closing.Stopped closing.Stopped g h = refl
one_closing d place s closing.Stopped (closing.Refused k r) g h = absurd (none_behind d place s r g.0 h.1)
one_closing d place s closing.Stopped (closing.Fault f offset) g h = let no : end.Stopped ≡ end.Fault f offset = sym g.1 ∙ h.1 in absurd cc
one_closing d place s (closing.Refused k r) closing.Stopped g h = absurd (none_behind d place s r h.0 g.1)
one_closing d place s (closing.Refused k r) (closing.Refused j q) g h =
    ap (λ (n : ℕ). closing.Refused n r) (g.0 ∙ sym h.0) ∙ ap (λ (x : Refusal). closing.Refused j x) (some_same (refused_on (item_at d place) s) r q g.1 h.1)
one_closing d place s (closing.Refused k r) (closing.Fault f offset) g h = absurd (none_behind d place s r h.0 g.1)
one_closing d place s (closing.Fault f offset) closing.Stopped g h = let no : end.Fault f offset ≡ end.Stopped = sym g.1 ∙ h.1 in absurd cc
one_closing d place s (closing.Fault f offset) (closing.Refused k r) g h = absurd (none_behind d place s r g.0 h.1)
one_closing d place s (closing.Fault f offset) (closing.Fault q other) g h = let same : end.Fault f offset ≡ end.Fault q other = sym g.1 ∙ h.1 in cc

-- ---- reports

one_place : (d : Contents) (p q : ℕ) (s t : State) (b c : Closing) → run (start d.many) (ops_of d) p ≡ Some s → run (start d.many) (ops_of d) q ≡ Some t → Closes d p s b → Closes d q t c → q ≤ p
one_place d p q s t b c e f g h = elim (cases_lt p q) [
  | inl less ↦ absurd (no_further d p s b (stepped_at (start d.many) (ops_of d) q p t f less) e g)
  | inr more ↦ more
]

pub one_report : OneReport
one_report d text other status last x y =
    let up : y.place ≤ x.place = one_place d x.place y.place x.state y.state x.closing y.closing x.reached y.reached x.closes y.closes in
    let down : x.place ≤ y.place = one_place d y.place x.place y.state x.state y.closing x.closing y.reached x.reached y.closes x.closes in
    let place : y.place ≡ x.place = omega (arith, up, down) in
    let reached : run (start d.many) (ops_of d) x.place ≡ Some y.state = ap (run (start d.many) (ops_of d)) (sym place) ∙ y.reached in
    let state : y.state ≡ x.state = some_same (run (start d.many) (ops_of d) x.place) y.state x.state reached x.reached in
    let there : Closes d x.place y.state y.closing = subst (λ (n : ℕ). Closes d n y.state y.closing) place y.closes in
    let closes : Closes d x.place x.state y.closing = subst (λ (s : State). Closes d x.place s y.closing) state there in
    let ends : x.closing ≡ y.closing = one_closing d x.place x.state x.closing y.closing x.closes closes in (
      x.lines ∙ ap (λ (s : State). report_text s.heap s.results x.closing) (sym state) ∙ ap (λ (c : Closing). report_text y.state.heap y.state.results c) ends ∙ sym y.lines,
      x.answers ∙ ap closing_status ends ∙ sym y.answers,
    )
