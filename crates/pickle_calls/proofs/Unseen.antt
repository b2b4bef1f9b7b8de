-- Where a step has no event, each opaque object is as it was.
use Rattle.std.proofs.Common.{◌≡◌, ℕ, zero, suc, ◌+◌, ◌-◌, ◌<◌, ◌≤◌, Bool, true, false, cond, List, [], ◌∷◌, ◌++◌, length, take, Option, Some, None, refl, sym, ap, ◌∙◌, inl, inr, arith, rules}
use Rattle.std.specs.Prelude.{slice_get, nat_le, nat_lt}
use Rattle.std.proofs.lemmas.List.{append-nil, length-drop}
use Rattle.pickle_ops.specs.declared.kind.Kind.{Kind}
use Rattle.pickle_ops.specs.declared.class.Demand.TheVariants as demand
use Rattle.pickle_ops.specs.declared.row.Row.{Row}
use Rattle.pickle_ops.specs.declared.row.Row.TheVariants as row
use Rattle.pickle_ops.specs.declared.row.Filling.{Filling}
use Rattle.pickle_ops.specs.declared.object.Change.{Change}
use Rattle.pickle_ops.specs.Object.{Object}
use Rattle.pickle_ops.specs.Kind.{is_opaque}
use Rattle.pickle_ops.specs.Row.{values_of}
use Rattle.pickle_machine.specs.declared.refusal.Refusal.{Refusal}
use Rattle.pickle_machine.specs.declared.refusal.Refusal.TheVariants as refusal
use Rattle.pickle_machine.specs.State.{Marked, State, stack_size, section_sizes}
use Rattle.pickle_machine.specs.Move.{next_of, refusal_of, cut, under, deeper, without, changes_of, change_top, last_of, deep, object_meets, unless, if_deep}
use Rattle.pickle_calls.specs.Event.{before_of, top_of, made_event, filled_event, event_of}
use Rattle.pickle_calls.proofs.Steps.{pushed_unseen, Same, Grown, after_changes, top_is, fills_unseen, not_there}

-- ---- sizes

-- an opcode that fills finds its target under what it takes
pub deep_enough : (n : ℕ) (section : List ℕ) (rest : Option Refusal) → if_deep n section rest ≡ None → n ≤ length section
deep_enough n section rest e = go (nat_le n (length section)) refl e
  where
    go : (b : Bool) → nat_le n (length section) ≡ b → unless b refusal.Underflow rest ≡ None → n ≤ length section
    go true f x = search rules
    go false f x = absurd cc

-- what is taken from the top section
pub taken_without : (n : ℕ) (s : State) → n ≤ length s.top → stack_size s - stack_size (without n s) ≡ length (last_of n s)
taken_without n s h = omega (arith, length-drop (length s.top - n) s.top, length_take_less (length s.top - n) s.top (omega arith))
  where
    length_take_less : (k : ℕ) (xs : List ℕ) → k ≤ length xs → length (take k xs) ≡ k
    length_take_less zero xs h = refl
    length_take_less (suc k) [] h = absurd (omega arith)
    length_take_less (suc k) (x ∷ xs) h = ap suc (length_take_less k xs (omega arith))

pub left_without : (n : ℕ) (s : State) → n < length s.top → 0 < length (without n s).top
left_without n s h = omega (arith, length_take_less (length s.top - n) s.top (omega arith))
  where
    length_take_less : (k : ℕ) (xs : List ℕ) → k ≤ length xs → length (take k xs) ≡ k
    length_take_less zero xs h = refl
    length_take_less (suc k) [] h = absurd (omega arith)
    length_take_less (suc k) (x ∷ xs) h = ap suc (length_take_less k xs (omega arith))

-- what is cut with a mark
pub taken_cut : (s : State) (ms : List Marked) → s.marked ≡ ms → 0 < length (under ms) → stack_size s - stack_size (cut s) ≡ length s.top
taken_cut s [] e h = absurd (omega (arith, h))
taken_cut s (m ∷ ms) e h =
    let before : section_sizes s.marked ≡ length m.section + section_sizes ms = ap section_sizes e in
    let behind : stack_size (cut s) ≡ length m.section + section_sizes ms = ap (λ (l : List Marked). length (under l) + section_sizes (deeper l)) e in
    omega (arith, before, behind)

pub under_mark : (s : State) (rest : Option Refusal) → unless (nat_lt 0 (length s.marked)) refusal.NoMark (if_deep 1 (under s.marked) rest) ≡ None → 0 < length (under s.marked)
under_mark s rest e = go (nat_lt 0 (length s.marked)) e
  where
    go : (b : Bool) → unless b refusal.NoMark (if_deep 1 (under s.marked) rest) ≡ None → 0 < length (under s.marked)
    go true x = deep_enough 1 (under s.marked) rest x
    go false x = absurd cc

-- ---- objects went into another: from a state without them, whose top that is

-- no event: each opaque object is as it was
into_unseen : (f : Filling) (items : List ℕ) (s u : State) → u.heap ≡ s.heap → 0 < length u.top → stack_size s - stack_size u ≡ length items
    → filled_event f (before_of s) (change_top (changes_of f items) u) ≡ None
    → (id : ℕ) (o : Object) → slice_get (change_top (changes_of f items) u).heap id ≡ Some o → is_opaque o.kind ≡ true → slice_get s.heap id ≡ Some o
into_unseen f items s u same top n e id o there opaque = elim (after_changes u.heap (deep 0 u.top) (changes_of f items) id o there) [
  | Same is ↦ ap (λ (h : List Object). slice_get h id) (sym same) ∙ is
  | Grown old at was is ↦ (elim (fills_unseen f items (before_of s) (change_top (changes_of f items) u) n e) [
    | inl none ↦
        let kept : o ≡ old = is ∙ ap (λ (more : List Change). record old { changes = old.changes ++ more }) none ∙ ap (λ (cs : List Change). record old { changes = cs }) (append-nil old.changes) in
        ap (λ (h : List Object). slice_get h id) (sym same) ∙ ap (slice_get u.heap) at ∙ was ∙ ap (λ (x : Object). Some x) (sym kept)
    | inr plain ↦
        let target : top_of u ≡ deep 0 u.top = top_is u top in
        let here : slice_get (change_top (changes_of f items) u).heap (top_of u) ≡ Some o = ap (slice_get (change_top (changes_of f items) u).heap) (target ∙ sym at) ∙ there in
        let no : true ≡ false = sym opaque ∙ not_there is_opaque (change_top (changes_of f items) u).heap (top_of u) o here plain in
        absurd cc
  ])
]

-- ---- rows

pub by_either : (b : Bool) (s t u : State) → t.heap ≡ s.heap → u.heap ≡ s.heap → (cond b t u).heap ≡ s.heap
by_either true s t u p q = p
by_either false s t u p q = q

-- a heap that stays
stays : (s t : State) → t.heap ≡ s.heap → (id : ℕ) (o : Object) → slice_get t.heap id ≡ Some o → slice_get s.heap id ≡ Some o
stays s t e id o h = ap (λ (l : List Object). slice_get l id) (sym e) ∙ h

unseen_view : (b : Bool) (s u : State) (x : Object) → u.heap ≡ s.heap ++ x ∷ [] → made_event (cond b s u).heap (length s.heap) ≡ None
    → (id : ℕ) (o : Object) → slice_get (cond b s u).heap id ≡ Some o → is_opaque o.kind ≡ true → slice_get s.heap id ≡ Some o
unseen_view true s u x e m id o h q = h
unseen_view false s u x e m id o h q =
    pushed_unseen s.heap x (ap (λ (l : List Object). made_event l (length s.heap)) (sym e) ∙ m) id o (ap (λ (l : List Object). slice_get l id) (sym e) ∙ h) q

pub row_unseen : (r : Row) (k : Kind) (place : ℕ) (s : State) → refusal_of r s ≡ None → event_of r (before_of s) (next_of r k place s) ≡ None
    → (id : ℕ) (o : Object) → slice_get (next_of r k place s).heap id ≡ Some o → is_opaque o.kind ≡ true → slice_get s.heap id ≡ Some o
row_unseen row.Nothing k place s f m id o h q = h
row_unseen (row.Protocol n) k place s f m id o h q = h
row_unseen (row.Extension n) k place s f m id o h q = pushed_unseen s.heap _ m id o h q
row_unseen row.Push k place s f m id o h q = pushed_unseen s.heap _ m id o h q
row_unseen row.Buffer k place s f m id o h q = pushed_unseen s.heap _ m id o h q
row_unseen row.ReadOnly k place s f m id o h q = unseen_view (object_meets demand.ReadOnly s (deep 0 s.top)) s _ _ refl m id o h q
row_unseen (row.Take t) k place s f m id o h q = pushed_unseen s.heap _ m id o h q
row_unseen (row.Cut c) k place s f m id o h q = pushed_unseen s.heap _ m id o h q
row_unseen (row.Change g) k place s f m id o h q =
    let deep : values_of g + 1 ≤ length s.top = deep_enough _ _ _ f in
    into_unseen g (last_of (values_of g) s) s (without (values_of g) s) refl (left_without (values_of g) s (omega (arith, deep))) (taken_without (values_of g) s (omega (arith, deep))) m id o h q
row_unseen (row.CutChange g) k place s f m id o h q =
    let there : 0 < length (under s.marked) = under_mark s _ f in
    into_unseen g s.top s (cut s) refl there (taken_cut s s.marked refl there) m id o h q
row_unseen row.Pop k place s f m id o h q = stays s (cond (nat_lt 0 (length s.top)) (without 1 s) (cut s)) (by_either (nat_lt 0 (length s.top)) s (without 1 s) (cut s) refl refl) id o h
row_unseen row.PopMark k place s f m id o h q = h
row_unseen row.Dup k place s f m id o h q = h
row_unseen row.Mark k place s f m id o h q = h
row_unseen (row.Get key) k place s f m id o h q = h
row_unseen (row.Put key) k place s f m id o h q = h
row_unseen row.Memoize k place s f m id o h q = h
row_unseen row.Stop k place s f m id o h q = h
