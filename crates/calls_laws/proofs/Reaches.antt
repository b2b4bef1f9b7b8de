-- What the lines promise whoever reads them.
use Rattle.std.proofs.Common.{◌≡◌, ◌≢◌, ◌⊎◌, ℕ, zero, suc, ◌+◌, ◌-◌, ◌<◌, ◌≤◌, Bool, true, false, cond, List, [], ◌∷◌, ◌++◌, length, Option, Some, None, refl, sym, ap, subst, ◌∙◌, inl, inr, arith, length-append, ◌/◌}
use Rattle.std.specs.Prelude.{slice_get, nat_lt, decimal, codes, if◌then◌else◌, ◌&&◌}
use Rattle.std.specs.Result.{result_ok}
use Rattle.std.proofs.lemmas.Option.{slice_get_past}
use Rattle.pickle_io.specs.Text.{◌⧺◌}
use Rattle.pickle_ops.specs.declared.opcode.Opcode.{Opcode}
use Rattle.pickle_ops.specs.declared.opcode.Opcode.TheVariants as op
use Rattle.pickle_ops.specs.Spelling.{Operation}
use Rattle.pickle_doc.specs.Document.{Contents}
use Rattle.pickle_doc.specs.Place.{ops_of, item_at, offset_of}
use Rattle.pickle_doc.proofs.Existence.{one_document}
use Rattle.pickle_ops.specs.declared.kind.Kind.{Kind}
use Rattle.pickle_ops.specs.declared.class.Demand.TheVariants as demand
use Rattle.pickle_ops.specs.declared.row.Row.{Row}
use Rattle.pickle_ops.specs.declared.row.Row.TheVariants as row
use Rattle.pickle_ops.specs.declared.row.Filling.{Filling}
use Rattle.pickle_ops.specs.declared.row.Filling.TheVariants as filling
use Rattle.pickle_ops.specs.Object.{Object}
use Rattle.pickle_ops.specs.Kind.{is_opaque}
use Rattle.pickle_ops.specs.Row.{row_of, row_of_opcode, kind_of, values_of}
use Rattle.pickle_machine.specs.declared.refusal.Refusal.{Refusal}
use Rattle.pickle_machine.specs.State.{State, stack_size, start}
use Rattle.pickle_machine.specs.Move.{next_of, refusal_of, refusal_at, next, outcome, cut, under, without, changes_of, change_top, last_of, deep, object_meets, begun, fresh, pairs_of}
use Rattle.pickle_machine.proofs.HeapGrowth.{fresh_heap}
use Rattle.pickle_machine.specs.Run.{after}
use Rattle.pickle_machine.specs.Loader.{loose_at}
use Rattle.pickle_machine.proofs.Shown.{last_of_more}
use Rattle.pickle_text.proofs.Runs.{run_after}
use Rattle.pickle_text.proofs.Lengths.{one_line}
use Rattle.pickle_text.specs.Column.{right_aligned, newline}
use Rattle.pickle_calls.specs.declared.event.Event.{Event}
use Rattle.pickle_calls.specs.Event.{before_of, top_of, is_view, made_event, filled_event, event_of, object_is, taken_count, filled_count}
use Rattle.pickle_io.specs.Holes.{in_file}
use Rattle.pickle_calls.specs.Manner.{Manner}
use Rattle.pickle_calls.specs.CallsLine.{event_text, event_line, line_of}
use Rattle.pickle_calls.specs.declared.naming.Naming.{Naming}
use Rattle.pickle_calls.specs.Telling.{for_people}
use Rattle.pickle_calls.specs.Calls.{naming_at, CountedText, entry_at, calls}
use Rattle.calls_laws.specs.CallsLaws.{OneText, IsStep, NoLineNoReach, Makes, Changes, IsShown, row_adds, adds}
use Rattle.pickle_calls.proofs.Walking.{entry_is}
use Rattle.pickle_calls.proofs.Steps.{pushed_shown, none_made, got_changes, top_is, is_there, shown_some}
use Rattle.pickle_calls.specs.declared.event.Before.{Before}
use Rattle.pickle_calls.proofs.Unseen.{deep_enough, taken_without, left_without, taken_cut, under_mark, by_either, row_unseen}

-- ---- one text

pub one_text : OneText
one_text how many bytes small less =
    let one = one_document many false bytes small less in
    (calls how one.0, (one.0, one.1, refl), λ e r. ap (calls how) (one.2 e r))

-- ---- what was filled

both : (a b : Bool) → (a && b) ≡ true → (a ≡ true) × (b ≡ true)
both true b e = (refl, e)
both false b e = absurd cc

below : (n : ℕ) → nat_lt 0 n ≡ true → 0 < n
below zero e = absurd cc
below (suc n) e = omega arith

pairs_more : (items : List ℕ) → 0 < length items / 2 → 0 < length (pairs_of items)
pairs_more [] h = absurd (omega (arith, h))
pairs_more (k ∷ []) h = absurd (omega (arith, h))
pairs_more (k ∷ v ∷ rest) h = omega arith

-- an event: changes went into an opaque object, or one or a view of one was appended or added to, or a state was set
pub fills_shown : (f : Filling) (items : List ℕ) (b : Before) (t : State) (x : Event) → taken_count b t ≡ length items → filled_event f b t ≡ Some x
    → ((0 < length (changes_of f items)) × (object_is is_opaque t.heap (top_of t) ≡ true)) ⊎ (((adds f ≡ true) × (loose_at t.heap (top_of t) ≡ true)) ⊎ (f ≡ filling.Build))
fills_shown filling.Append items b t x n e = inr (inl (refl, (shown_some _ _ _ e).0))
fills_shown filling.SetItem items b t x n e =
    let shown = both _ _ (shown_some _ _ _ e).0 in
    inl (pairs_more items (subst (λ (k : ℕ). 0 < filled_count filling.SetItem k) n (below (filled_count filling.SetItem (taken_count b t)) shown.0)), shown.1)
fills_shown filling.Add items b t x n e = inr (inl (refl, (shown_some _ _ _ e).0))
fills_shown filling.Build items b t x n e = inr (inr refl)

-- ---- objects went into another: from a state without them, whose top that is

-- an event: an opaque object got changes, or one or a view of one was appended or added to, or a state was set
into_shown : (f : Filling) (items : List ℕ) (s u : State) (x : Event) → u.heap ≡ s.heap → 0 < length u.top → stack_size s - stack_size u ≡ length items
    → filled_event f (before_of s) (change_top (changes_of f items) u) ≡ Some x
    → Changes s (change_top (changes_of f items) u) ⊎ (((adds f ≡ true) × (loose_at (change_top (changes_of f items) u).heap (top_of (change_top (changes_of f items) u)) ≡ true)) ⊎ (f ≡ filling.Build))
into_shown f items s u x same top n e = elim (fills_shown f items (before_of s) (change_top (changes_of f items) u) x n e) [
  | inr rest ↦ inr rest
  | inl some ↦
      let target : top_of u ≡ deep 0 u.top = top_is u top in
      let new = is_there is_opaque (change_top (changes_of f items) u).heap (top_of u) some.1 in
      let here : slice_get (change_top (changes_of f items) u).heap (deep 0 u.top) ≡ Some new.0 = ap (slice_get (change_top (changes_of f items) u).heap) (sym target) ∙ new.1 in
      let old = got_changes u.heap (deep 0 u.top) (changes_of f items) new.0 here in
      inl (record {
        id = deep 0 u.top;
        old = old.0;
        new = new.0;
        before = ap (λ (h : List Object). slice_get h (deep 0 u.top)) (sym same) ∙ old.1;
        after = here;
        opaque = ap (λ (y : Object). is_opaque y.kind) (sym old.2) ∙ new.2;
        more = omega (arith, some.0, ap (λ (y : Object). length y.changes) old.2, length-append old.0.changes (changes_of f items));
      })
]

-- ---- rows

-- what a row has an event for
abbrev pub RowShown : Row → State → State → Type 0
RowShown r s t = Makes s t ⊎ (Changes s t ⊎ (((row_adds r ≡ true) × (loose_at t.heap (top_of t) ≡ true)) ⊎ ((r ≡ row.Change filling.Build) ⊎ (r ≡ row.CutChange filling.Build))))

pushes : (r : Row) (s t : State) (x : Object) (event : Event) → t.heap ≡ s.heap ++ x ∷ [] → made_event t.heap (length s.heap) ≡ Some event → RowShown r s t
pushes r s t x event e m =
    let at : made_event (s.heap ++ x ∷ []) (length s.heap) ≡ Some event = ap (λ (l : List Object). made_event l (length s.heap)) (sym e) ∙ m in
    let shown : (is_opaque x.kind ≡ true) ⊎ (is_view t.heap x ≡ true) = subst (λ (l : List Object). (is_opaque x.kind ≡ true) ⊎ (is_view l x ≡ true)) (sym e) (pushed_shown s.heap x event at) in
    inl (record {
      id = length s.heap;
      object = x;
      there = ap (λ (l : List Object). slice_get l (length s.heap)) e ∙ last_of_more s.heap x;
      fresh = slice_get_past s.heap (length s.heap) (omega arith);
      shown = shown;
    })

shown_stays : (r : Row) (s t : State) (event : Event) → t.heap ≡ s.heap → made_event t.heap (length s.heap) ≡ Some event → RowShown r s t
shown_stays r s t event e m =
    let no : None ≡ Some event = sym (none_made s.heap) ∙ ap (λ (l : List Object). made_event l (length s.heap)) (sym e) ∙ m in
    absurd cc

shown_view : (r : Row) (b : Bool) (s u : State) (x : Object) (event : Event) → u.heap ≡ s.heap ++ x ∷ [] → made_event (cond b s u).heap (length s.heap) ≡ Some event → RowShown r s (cond b s u)
shown_view r true s u x event e m = shown_stays r s s event refl m
shown_view r false s u x event e m = pushes r s u x event e m

pub row_shown : (r : Row) (k : Kind) (place : ℕ) (s : State) (event : Event) → refusal_of r s ≡ None → event_of r (before_of s) (next_of r k place s) ≡ Some event
    → RowShown r s (next_of r k place s)
row_shown row.Nothing k place s x f m = shown_stays _ s s x refl m
row_shown (row.Protocol n) k place s x f m = shown_stays _ s s x refl m
row_shown (row.Extension n) k place s x f m = pushes _ s _ _ x refl m
row_shown row.Push k place s x f m = pushes _ s _ _ x refl m
row_shown row.Buffer k place s x f m = pushes _ s _ _ x refl m
row_shown row.ReadOnly k place s x f m = shown_view _ (object_meets demand.ReadOnly s (deep 0 s.top)) s _ _ x refl m
row_shown (row.Take t) k place s x f m = pushes _ s _ _ x refl m
row_shown (row.Cut c) k place s x f m = pushes _ s _ _ x refl m
row_shown (row.Change g) k place s x f m =
    let deep : values_of g + 1 ≤ length s.top = deep_enough _ _ _ f in
    elim (into_shown g (last_of (values_of g) s) s (without (values_of g) s) x refl (left_without (values_of g) s (omega (arith, deep))) (taken_without (values_of g) s (omega (arith, deep))) m) [
      | inl changes ↦ inr (inl changes)
      | inr rest ↦ inr (inr (elim rest [
        | inl touches ↦ inl touches
        | inr build ↦ inr (inl (ap row.Change build))
      ]))
    ]
row_shown (row.CutChange g) k place s x f m =
    let there : 0 < length (under s.marked) = under_mark s _ f in
    elim (into_shown g s.top s (cut s) x refl there (taken_cut s s.marked refl there) m) [
      | inl changes ↦ inr (inl changes)
      | inr rest ↦ inr (inr (elim rest [
        | inl touches ↦ inl touches
        | inr build ↦ inr (inr (ap row.CutChange build))
      ]))
    ]
row_shown row.Pop k place s x f m = shown_stays _ s (cond (nat_lt 0 (length s.top)) (without 1 s) (cut s)) x (by_either (nat_lt 0 (length s.top)) s (without 1 s) (cut s) refl refl) m
row_shown row.PopMark k place s x f m = shown_stays _ s _ x refl m
row_shown row.Dup k place s x f m = shown_stays _ s _ x refl m
row_shown row.Mark k place s x f m = shown_stays _ s _ x refl m
row_shown (row.Get key) k place s x f m = shown_stays _ s _ x refl m
row_shown (row.Put key) k place s x f m = shown_stays _ s _ x refl m
row_shown row.Memoize k place s x f m = shown_stays _ s _ x refl m
row_shown row.Stop k place s x f m = shown_stays _ s _ x refl m

-- ---- opcodes

build_only : (o : Opcode) (arg : List ℕ) → row_of_opcode o arg ≡ row.Change filling.Build → o ≡ op.Build
build_only op.Build arg e = refl
build_only _ arg e = cc

no_cut_build : (o : Opcode) (arg : List ℕ) → row_of_opcode o arg ≡ row.CutChange filling.Build → o ≡ op.Build
no_cut_build op.Build arg e = refl
no_cut_build _ arg e = cc

-- ---- items

-- an item that is there, and has a move
pub record Moves (x : Option Operation) (k : ℕ) (s t : State) : Type 0 where
  pub item : Operation
  pub there : x ≡ Some item
  pub accepted : refusal_at item s ≡ None
  pub leads : next item k s ≡ t

by_outcome : (r : Option Refusal) (u t : State) → result_ok (outcome r u) ≡ Some t → (r ≡ None) × (u ≡ t)
by_outcome None u t e = (refl, cc)
by_outcome (Some r) u t e = absurd cc

moves : (x : Option Operation) (k : ℕ) (s t : State) → after x k (Some s) ≡ Some t → Moves x k s t
moves None k s t e = absurd cc
moves (Some o) k s t e = let m = by_outcome (refusal_at o s) (next o k s) t e in record { item = o; there = refl; accepted = m.0; leads = m.1 }

pub moves_at : (d : Contents) (k : ℕ) (s t : State) → IsStep d k s t → Moves (item_at d k) k s t
moves_at d k s t step =
    moves (item_at d k) k s t (ap (λ (y : Option State). after (item_at d k) k y) (sym step.before) ∙ run_after (start d.many) (ops_of d) k t step.after)

-- ---- a further pickle begins with the heap as it is

makes_by : (b : Bool) (s t : State) → Makes (if b then begun s else s) t → Makes s t
makes_by true s t m = record { id = m.id; object = m.object; there = m.there; fresh = m.fresh; shown = m.shown }
makes_by false s t m = m

changes_by : (b : Bool) (s t : State) → Changes (if b then begun s else s) t → Changes s t
changes_by true s t c = record { id = c.id; old = c.old; new = c.new; before = c.before; after = c.after; opaque = c.opaque; more = c.more }
changes_by false s t c = c

-- ---- lines

-- a line ends with a newline
pub long : (offset : ℕ) (m : Naming) (heap : List Object) (e : Event) → 0 < length (event_line offset m heap e)
unfolding event_line
long offset m heap e = omega (arith, one_line (right_aligned 5 (decimal offset) ⧺ codes ": " ⧺ event_text m heap e) newline)

pub no_line : (offset : ℕ) (m : Naming) (heap : List Object) (x : Option Event) → line_of offset m heap x ≡ [] → x ≡ None
no_line offset m heap None h = refl
no_line offset m heap (Some e) h = absurd (omega (arith, long offset m heap e, ap length h))

a_line : (offset : ℕ) (m : Naming) (heap : List Object) (x : Option Event) → line_of offset m heap x ≢ [] → (e : Event) × (x ≡ Some e)
a_line offset m heap None h = absurd (h refl)
a_line offset m heap (Some e) h = (e, refl)

-- ---- the laws

pub no_line_no_reach : NoLineNoReach
no_line_no_reach how d k s t step none id o there opaque =
    let m = moves_at d k s t step in
    let from : State = fresh s in
    let here : (entry_at how d k).text ≡ line_of (in_file how.holes (offset_of d k)) (naming_at how.detail d k) t.heap (event_of (row_of m.item) (before_of from) t) = ap (λ (e : CountedText). e.text) (entry_is for_people how d k m.item s t m.there step.before step.after) in
    let nothing : event_of (row_of m.item) (before_of from) t ≡ None = no_line _ _ _ _ (sym here ∙ none) in
    let at : event_of (row_of m.item) (before_of from) (next m.item k s) ≡ None = ap (λ (u : State). event_of (row_of m.item) (before_of from) u) m.leads ∙ nothing in
    ap (λ (h : List Object). slice_get h id) (sym (fresh_heap s))
    ∙ row_unseen (row_of m.item) (kind_of m.item) k from m.accepted at id o (ap (λ (u : State). slice_get u.heap id) m.leads ∙ there) opaque

pub only_shown : (how : Manner) (d : Contents) (k : ℕ) (s t : State) → IsStep d k s t → (entry_at how d k).text ≢ [] → IsShown d k s t
only_shown how d k s t step some =
    let m = moves_at d k s t step in
    let from : State = fresh s in
    let here : (entry_at how d k).text ≡ line_of (in_file how.holes (offset_of d k)) (naming_at how.detail d k) t.heap (event_of (row_of m.item) (before_of from) t) = ap (λ (e : CountedText). e.text) (entry_is for_people how d k m.item s t m.there step.before step.after) in
    let event = a_line (in_file how.holes (offset_of d k)) (naming_at how.detail d k) t.heap (event_of (row_of m.item) (before_of from) t) (λ e. some (here ∙ e)) in
    let at : event_of (row_of m.item) (before_of from) (next m.item k s) ≡ Some event.0 = ap (λ (u : State). event_of (row_of m.item) (before_of from) u) m.leads ∙ event.1 in
    let all : RowShown (row_of m.item) from t = subst (λ (u : State). RowShown (row_of m.item) from u) m.leads (row_shown (row_of m.item) (kind_of m.item) k from event.0 m.accepted at) in
    elim all [
      | inl makes ↦ inl (makes_by s.stopped s t makes)
      | inr rest ↦ (elim rest [
        | inl changes ↦ inr (inl (changes_by s.stopped s t changes))
        | inr more ↦ (elim more [
          | inl touches ↦ inr (inr (inl (m.item, m.there, touches.0, touches.1)))
          | inr build ↦ (elim build [
            | inl one ↦ inr (inr (inr (m.item, m.there, build_only m.item.opcode m.item.arg one)))
            | inr two ↦ inr (inr (inr (m.item, m.there, no_cut_build m.item.opcode m.item.arg two)))
          ])
        ])
      ])
    ]
