-- The verdict is `Passes` exactly where bytes pass, and bytes have one.
use Rattle.std.proofs.Common.{◌≡◌, ℕ, zero, suc, ◌+◌, ◌≤◌, Bool, true, false, List, [], ◌∷◌, length, Option, Some, None, Ok, refl, sym, ap, subst, ◌∙◌, arith}
use Rattle.std.specs.Prelude.{slice_get, nat_lt, if◌then◌else◌}
use Rattle.std.proofs.lemmas.Bool.{lt-ltb}
use Rattle.std.proofs.lemmas.Option.{slice_get_past}
use Rattle.pickle_ops.specs.Spelling.{Operation, size_of}
use Rattle.pickle_doc.specs.declared.fault.TailFault.{TailFault}
use Rattle.pickle_doc.specs.Document.{Contents, ended_by, finish_of, size_limit}
use Rattle.pickle_doc.specs.Place.{ops_of, item_at}
use Rattle.pickle_doc.proofs.Ends.{finish_stopped}
use Rattle.pickle_doc.proofs.Existence.{one_document}
use Rattle.pickle_machine.specs.declared.refusal.Refusal.{Refusal}
use Rattle.pickle_machine.specs.State.{State, start}
use Rattle.pickle_machine.specs.Move.{move, next, outcome}
use Rattle.pickle_machine.specs.Run.{run}
use Rattle.pickle_text.specs.declared.closing.Closing.{Closing}
use Rattle.pickle_text.specs.declared.closing.Closing.TheVariants as closing
use Rattle.pickle_calls.specs.CallsLine.{ending_status}
use Rattle.pickle_text.specs.Reached.{reached}
use Rattle.pickle_text.specs.Closing.{refused_on}
use Rattle.pickle_calls.specs.Calls.{CallsEnd, closing_of, closing_to, closed, end_to, end_from, end_by, calls_end}
use Rattle.pickle_text.proofs.Places.{is_reached, reached_here, run-suc, within}
use Rattle.pickle_form.specs.declared.reason.Reason.{Reason}
use Rattle.pickle_form.specs.declared.reason.Reason.TheVariants as reason
use Rattle.pickle_form.specs.declared.reason.Other.{Other}
use Rattle.pickle_form.specs.Form.{Before, begin, after, reason_of, end_reason, other_here, first_from, first_other}
use Rattle.pickle_allow.specs.declared.list.Entry.{Entry}
use Rattle.pickle_gate.specs.declared.verdict.Verdict.TheVariants as verdict
use Rattle.pickle_gate.specs.Gate.{first_forbidden, Passes}
use Rattle.pickle_gate.specs.Verdict.{in_form, verdict_by, verdict_to, verdict_of, IsVerdict, VerdictsAreTrue, OneVerdict}
use Rattle.pickle_gate.proofs.Gating.{none_inside}

-- ---- where a pickle in the form ends

none_here : (k offset : ℕ) (r : Option Reason) (rest : Option Other) → other_here k offset r rest ≡ None → (r ≡ None) × (rest ≡ None)
none_here k offset (Some why) rest e = absurd cc
none_here k offset None rest e = (refl, e)

ends_so : (d : Contents) (b : Before) (k offset : ℕ) (ops : List Operation) → first_from d b k offset ops ≡ None → end_reason (ended_by d) (length d.tail) ≡ None
ends_so d b k offset [] e = (none_here k offset (end_reason (ended_by d) (length d.tail)) None e).0
ends_so d b k offset (o ∷ ops) e =
    ends_so d (after o b) (k + 1) (offset + size_of o) ops (none_here k offset (reason_of o b) (first_from d (after o b) (k + 1) (offset + size_of o) ops) e).1

nothing_behind : (n : ℕ) → nat_lt 0 n ≡ false → n ≡ 0
nothing_behind zero e = refl
nothing_behind (suc n) e = let t : nat_lt 0 (suc n) ≡ true = lt-ltb 0 (suc n) (omega arith) in let no : true ≡ false = sym t ∙ e in absurd cc

-- at STOP, and with it the bytes
stops_by : (x : Option TailFault) (n : ℕ) → end_reason x n ≡ None → (x ≡ None) × (n ≡ 0)
stops_by (Some f) n e = absurd cc
stops_by None n e = (refl, nothing_behind n (go (nat_lt 0 n) e))
  where
    go : (b : Bool) → (if b then Some reason.Behind else None) ≡ None → b ≡ false
    go true e = absurd cc
    go false e = refl

form_stops : (d : Contents) → first_other d ≡ None → (ended_by d ≡ None) × (length d.tail ≡ 0)
unfolding first_other
form_stops d e = stops_by (ended_by d) (length d.tail) (ends_so d begin 0 0 (ops_of d) e)

-- ---- how reading ends

-- at STOP, where all items are run
ran_end : (d : Contents) (s : State) → d.many ≡ false → run (start d.many) (ops_of d) (length (ops_of d)) ≡ Some s → calls_end d ≡ record { place = length (ops_of d); ending = closed d (closing_of d (finish_of d)) }
unfolding calls_end
ran_end d s m r =
    let last : reached (start d.many) (ops_of d) (length (ops_of d)) ≡ length (ops_of d) = reached_here (start d.many) (ops_of d) (length (ops_of d)) s r in
    let none : item_at d (length (ops_of d)) ≡ None = slice_get_past (ops_of d) (length (ops_of d)) (omega arith) in
    rw (last, none_inside d (length (ops_of d)) m, r, none) refl

stopped_status : (d : Contents) (c : Closing) → closing.Stopped ≡ c → length d.tail ≡ 0 → ending_status (closed d c) ≡ 0
stopped_status d c e n = subst (λ (x : Closing). ending_status (closed d x) ≡ 0) e (rw n refl)

ran_stops : (d : Contents) (s : State) → d.many ≡ false → first_other d ≡ None → run (start d.many) (ops_of d) (length (ops_of d)) ≡ Some s → ending_status (calls_end d).ending ≡ 0
ran_stops d s m e r =
    let form = form_stops d e in
    ap (λ (x : CallsEnd). ending_status x.ending) (ran_end d s m r) ∙ stopped_status d (closing_of d (finish_of d)) (ap (closing_of d) (finish_stopped d form.0)) form.1

-- there is no item behind the last
none_past : (ops : List Operation) (k : ℕ) → slice_get ops k ≡ None → length ops ≤ k
none_past [] k e = omega arith
none_past (o ∷ ops) zero e = absurd cc
none_past (o ∷ ops) (suc k) e = omega (arith, none_past ops k e)

refusal_none : (d : Contents) (k : ℕ) (r : Option Refusal) → ending_status (closed d (closing_to d k r)) ≡ 0 → r ≡ None
refusal_none d k None e = refl
refusal_none d k (Some r) e = absurd cc

abbrev RunsAll : Contents → Type 0
RunsAll d = (s : State) × (run (start d.many) (ops_of d) (length (ops_of d)) ≡ Some s)

-- the greatest place that is reached is behind all items, where none is refused there
run_from : (d : Contents) (k : ℕ) (s : State) (x : Option Operation) → item_at d k ≡ x → refused_on x s ≡ None → run (start d.many) (ops_of d) k ≡ Some s → k ≤ length (ops_of d)
    → ((j : ℕ) (t : State) → j ≤ length (ops_of d) → run (start d.many) (ops_of d) j ≡ Some t → j ≤ k) → RunsAll d
run_from d k s None i f r le most =
    let same : k ≡ length (ops_of d) = omega (arith, none_past (ops_of d) k i, le) in
    (s, subst (λ (n : ℕ). run (start d.many) (ops_of d) n ≡ Some s) same r)
run_from d k s (Some o) i f r le most =
    let t : State = next o k s in
    let m : move o k s ≡ Ok t = ap (λ (y : Option Refusal). outcome y (next o k s)) f in
    let on : run (start d.many) (ops_of d) (suc k) ≡ Some t = rw (run-suc (start d.many) (ops_of d) k o s i r, m) refl in
    let no : suc k ≤ k = most (suc k) t (omega (arith, within (ops_of d) k o i)) on in
    absurd (omega (arith, no))

-- where reading ends at STOP all items are run
run_all : (d : Contents) → d.many ≡ false → ending_status (calls_end d).ending ≡ 0 → RunsAll d
unfolding calls_end
run_all d m e =
    let far = is_reached (start d.many) (ops_of d) (length (ops_of d)) in
    let last : ℕ = reached (start d.many) (ops_of d) (length (ops_of d)) in
    let end_is : end_by d last ≡ end_to d last (Some far.state) = ap (end_from d last) (none_inside d last m) ∙ ap (end_to d last) far.is in
    let none : refused_on (item_at d last) far.state ≡ None =
    refusal_none d last (refused_on (item_at d last) far.state) (sym (ap (λ (x : CallsEnd). ending_status x.ending) end_is) ∙ e) in
    run_from d last far.state (item_at d last) refl none far.is far.within far.most

-- ---- the laws

-- a verdict `Passes` by its parts
pub record IsPassed (x : Option ℕ) (y : Option State) (z : Option Other) : Type 0 where
  pub state : State
  pub allowed : x ≡ None
  pub runs : y ≡ Some state
  pub in_form : z ≡ None

passed_by : (d : Contents) (x : Option ℕ) (y : Option State) (z : Option Other) → verdict.Passes ≡ verdict_by d x y z → IsPassed x y z
passed_by d (Some k) y z e = absurd cc
passed_by d None None z e = absurd cc
passed_by d None (Some s) (Some other) e = absurd cc
passed_by d None (Some s) None e = record { state = s; allowed = refl; runs = refl; in_form = refl }

passes : (list : List Entry) (bytes : List ℕ) → length bytes ≤ size_limit → IsVerdict list bytes verdict.Passes → Passes list bytes
unfolding verdict_of
passes list bytes small (d, reads, v) =
    let p = passed_by d (first_forbidden list d (in_form d (first_other d))) (run (start d.many) (ops_of d) (in_form d (first_other d))) (first_other d) v in
    let all : in_form d (first_other d) ≡ length (ops_of d) = ap (in_form d) p.in_form in
    let runs : run (start d.many) (ops_of d) (length (ops_of d)) ≡ Some p.state = sym (ap (run (start d.many) (ops_of d)) all) ∙ p.runs in
    record {
      document = d;
      reads = reads;
      small = omega (arith, small);
      in_form = p.in_form;
      stops = ran_stops d p.state reads.mode p.in_form runs;
      allowed = sym (ap (first_forbidden list d) all) ∙ p.allowed;
    }

says : (list : List Entry) (bytes : List ℕ) → Passes list bytes → IsVerdict list bytes verdict.Passes
unfolding verdict_of
says list bytes p =
    let d : Contents = p.document in
    let s = run_all d p.reads.mode p.stops in (
      d,
      p.reads,
      sym (ap (verdict_to list d) p.in_form
          ∙ ap (λ (x : Option ℕ). verdict_by d x (run (start d.many) (ops_of d) (length (ops_of d))) None) p.allowed
          ∙ ap (λ (y : Option State). verdict_by d None y None) s.1),
    )

pub verdicts_are_true : VerdictsAreTrue
verdicts_are_true list bytes small = record { passes = passes list bytes small; says = says list bytes }

pub one_verdict : OneVerdict
one_verdict list bytes h n =
    let one = one_document false false bytes h n in
    (verdict_of list one.0, (one.0, one.1, refl), λ w h. ap (verdict_of list) (one.2 h.0 h.1) ∙ sym h.2)
