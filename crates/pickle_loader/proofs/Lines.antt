-- What is listed has a line, and with status 0 all is listed.
use Rattle.std.proofs.Common.{subst, Bool, true, false, cond, ◌++◌, length-append, ◌≡◌, ℕ, zero, suc, ◌<◌, ◌≤◌, List, [], ◌∷◌, length, Option, Some, None, refl, sym, ap, ◌∙◌, arith}
use Rattle.std.proofs.lemmas.List.{append-nil}
use Rattle.std.specs.Prelude.{◌==◌, slice_get, decimal, codes}
use Rattle.std.proofs.lemmas.Option.{slice_get_within}
use Rattle.std.specs.Result.{result_ok}
use Rattle.pickle_io.specs.Text.{◌⧺◌}
use Rattle.pickle_ops.specs.Spelling.{Operation}
use Rattle.pickle_ops.specs.Object.{Object}
use Rattle.pickle_ops.specs.Row.{row_of}
use Rattle.pickle_doc.specs.Document.{Contents}
use Rattle.pickle_doc.specs.Place.{ops_of, item_at, offset_of}
use Rattle.pickle_machine.specs.declared.refusal.Refusal.{Refusal}
use Rattle.pickle_machine.specs.State.{State, start}
use Rattle.pickle_machine.specs.Move.{fresh, next, outcome}
use Rattle.pickle_machine.specs.Run.{after, run}
use Rattle.pickle_text.proofs.Lengths.{one_line}
use Rattle.pickle_text.proofs.Places.{is_reached}
use Rattle.pickle_text.specs.Column.{right_aligned, newline}
use Rattle.pickle_calls.specs.declared.event.Event.{Event}
use Rattle.pickle_calls.specs.Event.{before_of, event_of}
use Rattle.pickle_calls.specs.CallsLine.{event_text, event_line, line_of, ending_status}
use Rattle.pickle_text.specs.Reached.{reached}
use Rattle.pickle_text.specs.Closing.{refused_on, closing_status}
use Rattle.pickle_text.specs.declared.closing.Closing.{Closing}
use Rattle.pickle_io.specs.Holes.{in_file}
use Rattle.pickle_calls.specs.Manner.{Manner}
use Rattle.pickle_calls.specs.declared.naming.Naming.{Naming}
use Rattle.pickle_calls.specs.Telling.{for_people}
use Rattle.pickle_calls.specs.Calls.{naming_at, entry_on, entry_at, first_inside, closing_to, kept_by, end_to, end_from, end_by, calls_end, calls, entry_in, calls_in}
use Rattle.pickle_loader.specs.Environment.{Value, Act, World}
use Rattle.pickle_loader.specs.Listed.{listed, listed_of, acts_listed, listed_on, listed_at, protocol_at}
use Rattle.pickle_loader.specs.Laws.{Follows, ActsHaveLines, AllListed, NoLineNoAct}
use Rattle.pickle_loader.specs.Dispatch.{Loaded, Going, Ended, Failed, acts_of, load_item, load}
use Rattle.pickle_loader.proofs.Still.{move_to}
use Rattle.pickle_loader.proofs.Listing.{loads_are_listed, next_load}

-- ---- lines

-- a line ends with a newline
pub long : (offset : ℕ) (m : Naming) (heap : List Object) (e : Event) → 0 < length (event_line offset m heap e)
unfolding event_line
long offset m heap e = omega (arith, one_line (right_aligned 5 (decimal offset) ⧺ codes ": " ⧺ event_text m heap e) newline)

event_tells : (V : ℕ → Value) (proto offset : ℕ) (m : Naming) (s t : State) (x : Option Event) → line_of offset m t.heap x ≡ [] → acts_listed V proto s t x ≡ []
event_tells V proto offset m s t None h = refl
event_tells V proto offset m s t (Some e) h = absurd (omega (arith, long offset m t.heap e, ap length h))

item_tells : (V : ℕ → Value) (proto offset : ℕ) (m : Naming) (x : Option Operation) (y z : Option State) → (entry_on for_people offset m x y z).text ≡ [] → listed_on V proto x y z ≡ []
item_tells V proto offset m (Some o) (Some s) (Some t) h = event_tells V proto offset m (fresh s) t (event_of (row_of o) (before_of (fresh s)) t) h
item_tells V proto offset m (Some o) (Some s) None h = refl
item_tells V proto offset m (Some o) None z h = refl
item_tells V proto offset m None y z h = refl

pub acts_have_lines : ActsHaveLines
unfolding listed_at entry_in
acts_have_lines how V d k some = λ none. some (item_tells V (protocol_at (ops_of d) k) (in_file how.holes (offset_of d k)) (naming_at how.detail d k) (item_at d k) (run (start d.many) (ops_of d) k) (run (start d.many) (ops_of d) (suc k)) none)

-- ---- status 0

-- a refused item gives status 1
pub not_refused : (d : Contents) (k : ℕ) (r : Option Refusal) → closing_status (closing_to d k r) ≡ 0 → r ≡ None
not_refused d k None e = refl
not_refused d k (Some r) e = absurd cc

-- so do bytes that are kept
closed_zero : (b : Bool) (n : ℕ) → cond b n 1 ≡ 0 → n ≡ 0
closed_zero true n e = e
closed_zero false n e = absurd cc

closed_kept : (b : Bool) (n : ℕ) → cond b n 1 ≡ 0 → b ≡ true
closed_kept true n e = refl
closed_kept false n e = absurd cc

-- status 0: no STOP leaves a frame unfinished, and the reading ends well
zero_by : (d : Contents) (k : ℕ) (s : State) (x : Option ℕ) → first_inside d k ≡ x → run (start d.many) (ops_of d) k ≡ Some s → ending_status (end_by d k).ending ≡ 0
    → (x ≡ None) × (closing_status (closing_to d k (refused_on (item_at d k) s)) ≡ 0) × ((kept_by d (closing_to d k (refused_on (item_at d k) s)) == 0) ≡ true)
zero_by d k s (Some j) is here e =
    let one : 1 ≡ 0 = sym (ap (λ (x : Option ℕ). ending_status (end_from d k x).ending) is) ∙ e in
    absurd (omega (arith, one))
zero_by d k s None is here e =
    let c : Closing = closing_to d k (refused_on (item_at d k) s) in
    let closes : ending_status (end_by d k).ending ≡ cond (kept_by d c == 0) (closing_status c) 1 =
    ap (λ (x : Option ℕ). ending_status (end_from d k x).ending) is ∙ ap (λ (y : Option State). ending_status (end_to d k y).ending) here in
    (refl, closed_zero (kept_by d c == 0) (closing_status c) (sym closes ∙ e), closed_kept (kept_by d c == 0) (closing_status c) (sym closes ∙ e))

pub zero_end : (how : Manner) (d : Contents) (k : ℕ) (s : State) → reached (start d.many) (ops_of d) (length (ops_of d)) ≡ k → run (start d.many) (ops_of d) k ≡ Some s → (calls how d).status ≡ 0
    → (first_inside d k ≡ None) × (closing_status (closing_to d k (refused_on (item_at d k) s)) ≡ 0) × ((kept_by d (closing_to d k (refused_on (item_at d k) s)) == 0) ≡ true)
unfolding calls_in calls_end
zero_end how d k s e here nought =
    let z : ending_status (end_by d k).ending ≡ 0 = sym (ap (λ (n : ℕ). ending_status (end_by d n).ending) e) ∙ nought in
    zero_by d k s (first_inside d k) refl here z

past_all : (ops : List Operation) (k : ℕ) → slice_get ops k ≡ None → length ops ≤ k
past_all [] k e = omega arith
past_all (o ∷ ops) zero e = absurd cc
past_all (o ∷ ops) (suc k) e = omega (arith, past_all ops k e)

run_suc : (from : State) (ops : List Operation) (n : ℕ) (s : State) → run from ops n ≡ Some s → run from ops (suc n) ≡ after (slice_get ops n) n (Some s)
unfolding run
run_suc from ops n s e = ap (λ (x : Option State). after (slice_get ops n) n x) e

-- the greatest place that is reached is the last where nothing is refused there
pub all_reached : (d : Contents) (k : ℕ) (s : State) (x : Option Operation) → item_at d k ≡ x → run (start d.many) (ops_of d) k ≡ Some s → refused_on x s ≡ None
    → ((j : ℕ) (t : State) → j ≤ length (ops_of d) → run (start d.many) (ops_of d) j ≡ Some t → j ≤ k) → k ≤ length (ops_of d) → k ≡ length (ops_of d)
all_reached d k s None is here none most within = omega (arith, past_all (ops_of d) k is, within)
all_reached d k s (Some o) is here none most within =
    let more : run (start d.many) (ops_of d) (suc k) ≡ Some (next o k s) =
    run_suc (start d.many) (ops_of d) k s here ∙ ap (λ (x : Option Operation). after x k (Some s)) is ∙ ap (λ (r : Option Refusal). result_ok (outcome r (next o k s))) none in
    absurd (omega (arith, most (suc k) (next o k s) (omega (arith, slice_get_within (ops_of d) k o is)) more))

pub all_listed : AllListed
all_listed how w d formed status =
    let law = loads_are_listed w d formed in
    let far = is_reached (start d.many) (ops_of d) (length (ops_of d)) in
    let k : ℕ = reached (start d.many) (ops_of d) (length (ops_of d)) in
    let none : refused_on (item_at d k) far.state ≡ None = not_refused d k (refused_on (item_at d k) far.state) (zero_end how d k far.state refl far.is status).1 in
    let all : k ≡ length (ops_of d) = all_reached d k far.state (item_at d k) refl far.is none far.most far.within in
    let last : run (start d.many) (ops_of d) (length (ops_of d)) ≡ Some far.state = ap (run (start d.many) (ops_of d)) (sym all) ∙ far.is in
    (law.0, far.state, last, law.1 (length (ops_of d)) far.state last)

-- ---- no line, no act

listed_same : (how : Manner) (V : ℕ → Value) (d : Contents) (k : ℕ) → (entry_at how d k).text ≡ [] → listed V d.many (ops_of d) (suc k) ≡ listed V d.many (ops_of d) k
unfolding listed listed_at entry_in
listed_same how V d k none =
    ap (λ (l : List Act). listed V d.many (ops_of d) k ++ l)
    (item_tells V (protocol_at (ops_of d) k) (in_file how.holes (offset_of d k)) (naming_at how.detail d k) (item_at d k) (run (start d.many) (ops_of d) k) (run (start d.many) (ops_of d) (suc k)) none)
    ∙ append-nil (listed V d.many (ops_of d) k)

-- no more is listed than the state has
at_most : (w : World) (V : ℕ → Value) (acts : List Act) (s : State) (l : Loaded) → Follows w V acts s l → length (listed_of (acts_of l)) ≤ length acts
at_most w V acts s (Going u) f = omega (arith, ap length f.1)
at_most w V acts s (Ended v u) f = omega (arith, ap length f.1)
at_most w V acts s (Failed done) f = omega (arith, ap length f.1, length-append (listed_of done) f.0)

no_more : (w : World) (V : ℕ → Value) (many : Bool) (acts : List Act) (s t : State) (o : Operation) (l : Loaded) → Follows w V acts s l → Follows w V acts t (load_item w many (Some o) l)
    → length (listed_of (acts_of (load_item w many (Some o) l))) ≤ length (listed_of (acts_of l))
no_more w V many acts s t o (Going u) f g = omega (arith, at_most w V acts t (load_item w many (Some o) (Going u)) g, ap length f.1)
no_more w V many acts s t o (Ended v u) f g = omega (arith, at_most w V acts t (load_item w many (Some o) (Ended v u)) g, ap length f.1)
no_more w V many acts s t o (Failed done) f g = omega arith

pub no_line_no_act : NoLineNoAct
no_line_no_act how w d formed k t e none =
    let law = loads_are_listed w d formed in
    let m = move_to (start d.many) (ops_of d) k t e in
    let before = law.1 k m.before m.reached in
    let next : load w d.many (ops_of d) (suc k) ≡ load_item w d.many (Some m.item) (load w d.many (ops_of d) k) = next_load w d.many (ops_of d) k m.item m.there in
    let after : Follows w law.0 (listed law.0 d.many (ops_of d) k) t (load_item w d.many (Some m.item) (load w d.many (ops_of d) k)) =
    subst (λ (l : Loaded). Follows w law.0 (listed law.0 d.many (ops_of d) k) t l) next
    (subst (λ (acts : List Act). Follows w law.0 acts t (load w d.many (ops_of d) (suc k))) (listed_same how law.0 d k none) (law.1 (suc k) t e)) in
    subst (λ (l : Loaded). length (listed_of (acts_of l)) ≤ length (listed_of (acts_of (load w d.many (ops_of d) k)))) (sym next)
    (no_more w law.0 d.many (listed law.0 d.many (ops_of d) k) m.before t m.item (load w d.many (ops_of d) k) before after)
