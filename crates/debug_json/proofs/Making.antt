-- Who made an object and who changed it, as records tell, and how many objects were there before a step.
use Rattle.std.proofs.Common.{◌≡◌, ◌∙◌, ℕ, zero, suc, ◌+◌, ◌-◌, ◌<◌, ◌≤◌, Bool, true, false, cond, List, length, Option, None, Some, Result, Ok, refl, sym, ap, subst, inl, inr, eq-or-lt_of_le, arith}
use Rattle.std.specs.Prelude.{nat_le, nat_lt, ◌&&◌, if◌then◌else◌, unwrap_or}
use Rattle.std.specs.List.{slice_get}
use Rattle.std.proofs.lemmas.Bool.{lt-ltb, le-ltb, le-leb, lt-leb}
use Rattle.pickle_ops.specs.Spelling.{Operation}
use Rattle.pickle_ops.specs.declared.class.Demand.TheVariants as demand
use Rattle.pickle_ops.specs.declared.kind.Kind.{Kind}
use Rattle.pickle_ops.specs.declared.kind.Kind.TheVariants as kind
use Rattle.pickle_ops.specs.declared.row.Row.{Row}
use Rattle.pickle_ops.specs.declared.row.Row.TheVariants as row
use Rattle.pickle_ops.specs.Row.{values_of, row_of, kind_of}
use Rattle.pickle_doc.specs.Document.{Contents}
use Rattle.pickle_doc.specs.Place.{item_at, ops_of}
use Rattle.pickle_machine.specs.declared.refusal.Refusal.{Refusal}
use Rattle.pickle_machine.specs.State.{State, start}
use Rattle.pickle_machine.specs.Move.{deep, last_of, without, cut, push, object_meets, changes_of, fresh, next_of, outcome, refusal_at, next, move}
use Rattle.pickle_machine.specs.Run.{run, after}
use Rattle.pickle_machine.specs.Back.{Record}
use Rattle.pickle_machine.specs.Records.{step_record}
use Rattle.pickle_machine.specs.Doing.{Doing, makes, does, told_by, is_made, told_made, told_changed}
use Rattle.pickle_machine.proofs.Doings.{step_told}
use Rattle.pickle_machine.proofs.HeapGrowth.{changed_length, fresh_heap}
use Rattle.pickle_session.specs.Session.{state_at}
use Rattle.pickle_session.specs.Allowed.{SessionState, IsAtCursor, kept_of}
use Rattle.pickle_session.specs.Steps.{record_on, record_at, kept_record}
use Rattle.pickle_session.proofs.Trails.{run_after, before_it, moved_by}
use Rattle.debug_json.specs.declared.asked.Own.TheVariants as own
use Rattle.debug_json.specs.declared.said.Said.TheVariants as said
use Rattle.debug_json.specs.Inside.Counted.{HasObjects}
use Rattle.debug_json.specs.MadeFields.{does_on, does_at, made_by, changed_by, is_number, maker}
use Rattle.debug_json.specs.Says.{SaysOwn}

-- ---- how many objects were there before a step: as many as the number of the one that it makes, or as many as after it

same_view : (b : Bool) (s t : State) → unwrap_or (cond b None (Some (length s.heap))) (length (cond b s t).heap) ≡ length s.heap
same_view true s t = refl
same_view false s t = refl

same_pop : (b : Bool) (s : State) → length (cond b (without 1 s) (cut s)).heap ≡ length s.heap
same_pop true s = refl
same_pop false s = refl

row_before : (r : Row) (k : Kind) (place : ℕ) (s : State) → unwrap_or (makes r s) (length (next_of r k place s).heap) ≡ length s.heap
row_before row.Nothing k place s = refl
row_before (row.Protocol n) k place s = refl
row_before (row.Extension n) k place s = refl
row_before row.Push k place s = refl
row_before row.Buffer k place s = refl
row_before row.ReadOnly k place s = same_view (object_meets demand.ReadOnly s (deep 0 s.top)) s (push kind.ReadOnly (last_of 1 s) (without 1 s))
row_before (row.Take t) k place s = refl
row_before (row.Cut c) k place s = refl
row_before (row.Change f) k place s =
    let id : ℕ = deep 0 (without (values_of f) s).top in
    changed_length s.heap id (changes_of f (last_of (values_of f) s)) (slice_get s.heap id)
row_before (row.CutChange f) k place s =
    let id : ℕ = deep 0 (cut s).top in
    changed_length s.heap id (changes_of f s.top) (slice_get s.heap id)
row_before row.Pop k place s = same_pop (nat_lt 0 (length s.top)) s
row_before row.PopMark k place s = refl
row_before row.Dup k place s = refl
row_before row.Mark k place s = refl
row_before (row.Get key) k place s = refl
row_before (row.Put key) k place s = refl
row_before row.Memoize k place s = refl
row_before row.Stop k place s = refl

landed : (r : Option Refusal) (s t : State) → outcome r s ≡ Ok t → s ≡ t
landed None s t e = cc
landed (Some r) s t e = absurd cc

move_before : (o : Operation) (place : ℕ) (s t : State) → move o place s ≡ Ok t → unwrap_or (does (row_of o) s).made (length t.heap) ≡ length s.heap
move_before o place s t e =
    subst (λ (x : State). unwrap_or (makes (row_of o) (fresh s)) (length x.heap) ≡ length s.heap) (landed (refusal_at o s) (next o place s) t e)
    (row_before (row_of o) (kind_of o) place (fresh s) ∙ ap (λ h. length h) (fresh_heap s))

-- ---- a step, by what is before it and after it

before_on : (x : Option Operation) (y : Option State) (k n : ℕ) (t : State) (found : Option ℕ) → found ≡ made_by (does_on x y) → after x k y ≡ Some t → n ≡ length t.heap
    → (s : State) × (y ≡ Some s) × (unwrap_or found n ≡ length s.heap)
before_on None y k n t found e a is = absurd cc
before_on (Some o) None k n t found e a is = absurd cc
before_on (Some o) (Some s) k n t found e a is = (
  s,
  refl,
  ap (λ (m : Option ℕ). unwrap_or m n) e ∙ ap (λ (j : ℕ). unwrap_or (does (row_of o) s).made j) is
      ∙ move_before o k s t (moved_by (Some o) (Some s) o s k t refl refl a),
)

step_of : (d : Contents) (k : ℕ) (t : State) → state_at d (suc k) ≡ Some t → after (item_at d k) k (state_at d k) ≡ Some t
step_of d k t e = run_after (start d.many) (ops_of d) k t e

pub objects_before : (d : Contents) (k n : ℕ) (found : Option ℕ) → found ≡ made_by (does_at d k) → HasObjects d (suc k) n → HasObjects d k (unwrap_or found n)
objects_before d k n found e (t, reached, is) = before_on (item_at d k) (state_at d k) k n t found e (step_of d k t reached) is

made_on : (x : Option Operation) (y : Option State) (k : ℕ) (r : Record) (t : State) → Some r ≡ record_on x y → after x k y ≡ Some t → told_made r t ≡ made_by (does_on x y)
made_on None y k r t e a = absurd cc
made_on (Some o) None k r t e a = absurd cc
made_on (Some o) (Some s) k r t e a =
    let is : r ≡ step_record (row_of o) s = cc in
    ap (λ (x : Record). told_made x t) is ∙ ap (λ (x : Doing). x.made) (step_told o k s t (moved_by (Some o) (Some s) o s k t refl refl a))

changed_on : (x : Option Operation) (y : Option State) (k : ℕ) (r : Record) (t : State) → Some r ≡ record_on x y → after x k y ≡ Some t → told_changed r.heap ≡ changed_by (does_on x y)
changed_on None y k r t e a = absurd cc
changed_on (Some o) None k r t e a = absurd cc
changed_on (Some o) (Some s) k r t e a =
    let is : r ≡ step_record (row_of o) s = cc in
    ap (λ (x : Record). told_changed x.heap) is ∙ ap (λ (x : Doing). x.changed) (step_told o k s t (moved_by (Some o) (Some s) o s k t refl refl a))

-- ---- a record that is kept

kept_there : (d : Contents) (kept cursor k : ℕ) (found : Option Record) → cursor - kept ≤ k → k < cursor → found ≡ kept_record d kept cursor k → found ≡ record_at d k
kept_there d kept cursor k found from before e =
    let above : nat_le (cursor - kept) k ≡ true = le-leb _ _ from in
    let below : nat_lt k cursor ≡ true = lt-ltb _ _ before in
    rw (above, below) at e

nothing_made : (x : Option Operation) (y : Option State) → None ≡ record_on x y → None ≡ made_by (does_on x y)
nothing_made None y e = refl
nothing_made (Some o) None e = refl
nothing_made (Some o) (Some s) e = absurd cc

nothing_changed : (x : Option Operation) (y : Option State) → None ≡ record_on x y → None ≡ changed_by (does_on x y)
nothing_changed None y e = refl
nothing_changed (Some o) None e = refl
nothing_changed (Some o) (Some s) e = absurd cc

pub unmade : (d : Contents) (kept cursor k : ℕ) → cursor - kept ≤ k → k < cursor → None ≡ kept_record d kept cursor k → None ≡ made_by (does_at d k)
unmade d kept cursor k from before e = nothing_made (item_at d k) (state_at d k) (kept_there d kept cursor k None from before e)

made_there : (d : Contents) (kept cursor k : ℕ) (r : Record) (t : State) → cursor - kept ≤ k → k < cursor → state_at d (suc k) ≡ Some t → Some r ≡ kept_record d kept cursor k
    → told_made r t ≡ made_by (does_at d k)
made_there d kept cursor k r t from before reached e =
    made_on (item_at d k) (state_at d k) k r t (kept_there d kept cursor k (Some r) from before e) (step_of d k t reached)

next_objects : (d : Contents) (k n : ℕ) → HasObjects d (k + 1) n → HasObjects d (suc k) n
next_objects d k n h = let same : k + 1 ≡ suc k = omega arith in subst (λ (j : ℕ). HasObjects d j n) same h

pub makes_one : (d : Contents) (kept cursor k n : ℕ) (r : Record) → cursor - kept ≤ k → k < cursor → HasObjects d (k + 1) n → Some r ≡ kept_record d kept cursor k
    → is_made r.heap ≡ true → Some (n - 1) ≡ made_by (does_at d k)
makes_one d kept cursor k n r from before h e made =
    let later = next_objects d k n h in
    ap (λ (j : ℕ). Some (j - 1)) later.2 ∙ rw made at (made_there d kept cursor k r later.0 from before later.1 e)

pub makes_none : (d : Contents) (kept cursor k n : ℕ) (r : Record) → cursor - kept ≤ k → k < cursor → HasObjects d (k + 1) n → Some r ≡ kept_record d kept cursor k
    → is_made r.heap ≡ false → None ≡ made_by (does_at d k)
makes_none d kept cursor k n r from before h e made =
    let later = next_objects d k n h in
    rw made at (made_there d kept cursor k r later.0 from before later.1 e)

pub ruleset made_steps = (unmade, makes_one, makes_none)

-- ---- a place before one that is reached is reached

reached_to : (from : State) (ops : List Operation) (n i : ℕ) (t : State) → run from ops n ≡ Some t → i ≤ n → (s : State) × (run from ops i ≡ Some s)
reached_to from ops zero i t e h =
    let none : zero ≡ i = omega (arith, h) in
    (t, subst (λ (j : ℕ). run from ops j ≡ Some t) none e)
reached_to from ops (suc n) i t e h = elim (eq-or-lt_of_le h) [
  | inl q ↦ (t, subst (λ (j : ℕ). run from ops j ≡ Some t) (sym q) e)
  | inr l ↦
      let b = before_it (slice_get ops n) (run from ops n) n t (run_after from ops n t e) in
      reached_to from ops n i b.0 b.1 (omega (arith, l))
]

pub unchanged_there : (d : Contents) (kept cursor k : ℕ) → cursor - kept ≤ k → k < cursor → None ≡ kept_record d kept cursor k → None ≡ changed_by (does_at d k)
unchanged_there d kept cursor k from before e = nothing_changed (item_at d k) (state_at d k) (kept_there d kept cursor k None from before e)

pub changes_there : (p : SessionState) (k : ℕ) (r : Record) (found : Option (ℕ × ℕ)) → p.session.cursor - kept_of p ≤ k → k < p.session.cursor → IsAtCursor p
    → Some r ≡ kept_record p.session.document (kept_of p) p.session.cursor k → found ≡ told_changed r.heap → found ≡ changed_by (does_at p.session.document k)
changes_there p k r found from before reached e is =
    let d : Contents = p.session.document in
    let after_it = reached_to (start d.many) (ops_of d) p.session.cursor (suc k) p.machine.state reached (omega (arith, before)) in
    is ∙ changed_on (item_at d k) (state_at d k) k r after_it.0 (kept_there d (kept_of p) p.session.cursor k (Some r) from before e) (step_of d k after_it.0 after_it.1)

pub ruleset changed_steps = (unchanged_there, changes_there)

-- ---- the last item that makes an object

pub none_below : (d : Contents) (first n k : ℕ) → k ≤ first → maker d first n k ≡ None
none_below d first n zero h = refl
none_below d first n (suc k) h =
    let below : nat_le first k ≡ false = lt-leb _ _ (omega (arith, h)) in
    rw below (none_below d first n k (omega (arith, h)))

pub maker_here : (d : Contents) (first n k : ℕ) → first ≤ k → is_number n (made_by (does_at d k)) ≡ true → maker d first n (suc k) ≡ Some k
maker_here d first n k h is = let within : nat_le first k ≡ true = le-leb _ _ h in rw (within, is) refl

pub maker_before : (d : Contents) (first n k : ℕ) → first ≤ k → is_number n (made_by (does_at d k)) ≡ false → maker d first n (suc k) ≡ maker d first n k
maker_before d first n k h is = let within : nat_le first k ≡ true = le-leb _ _ h in rw (within, is) refl

-- ---- what is said

pub says_made : (p : SessionState) (t : State) (n first : ℕ) → state_at p.session.document p.session.cursor ≡ Some t → n < length t.heap
    → first ≡ p.session.cursor - kept_of p → SaysOwn (own.Made n) p (said.Made n first) p
says_made p t n first e h is = record {
  state = t;
  reached = e;
  is_made = rw (lt-ltb n (length t.heap) h) (ap (λ (k : ℕ). said.Made n k) is);
  unchanged = refl;
}

pub lacks_made : (p : SessionState) (t : State) (n : ℕ) → state_at p.session.document p.session.cursor ≡ Some t → length t.heap ≤ n
    → SaysOwn (own.Made n) p (said.NoObject n) p
lacks_made p t n e h = record { state = t; reached = e; is_made = rw (le-ltb n (length t.heap) h) refl; unchanged = refl }

pub ruleset telling_steps = (says_made, lacks_made)
