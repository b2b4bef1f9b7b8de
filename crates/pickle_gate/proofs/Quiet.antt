-- Steps without an event.
use Rattle.std.proofs.Common.{◌≡◌, ℕ, Bool, true, false, List, Option, Some, None, refl, sym, ap, subst, ◌∙◌, length}
use Rattle.std.specs.Prelude.{◌&&◌, ◌||◌, not, nat_lt, if◌then◌else◌, slice_get}
use Rattle.std.specs.Option.{option_map_or}
use Rattle.std.proofs.lemmas.Bool.{false≢true}
use Rattle.pickle_ops.specs.declared.class.Class.{Class}
use Rattle.pickle_ops.specs.declared.class.Demand.TheVariants as demand
use Rattle.pickle_ops.specs.declared.row.Row.{Row}
use Rattle.pickle_ops.specs.declared.row.Row.TheVariants as row
use Rattle.pickle_ops.specs.declared.row.Filling.{Filling}
use Rattle.pickle_ops.specs.declared.row.Filling.TheVariants as filling
use Rattle.pickle_ops.specs.Object.{Object}
use Rattle.pickle_ops.specs.Class.{is_any, class_meets}
use Rattle.pickle_ops.specs.Kind.{is_opaque}
use Rattle.pickle_machine.specs.State.{State}
use Rattle.pickle_machine.specs.Seen.{class_at}
use Rattle.pickle_machine.specs.Loader.{view_at, loose_at}
use Rattle.pickle_calls.specs.declared.event.Event.{Event}
use Rattle.pickle_calls.specs.declared.event.Event.TheVariants as event
use Rattle.pickle_calls.specs.declared.event.Before.{Before}
use Rattle.pickle_calls.specs.Event.{is_view, is_shown, object_is, top_of, taken_count, filled_count, made_event, filled_event, event_of}
use Rattle.pickle_calls.proofs.Looks.{opaque_by_class, opaque_without_class, loose_by_class, loose_without_class, shown_by_class, shown_without_class, made_if_shown}
use Rattle.pickle_allow.specs.declared.list.Entry.{Entry}
use Rattle.pickle_gate.specs.declared.packed.Kept.{Kept}
use Rattle.pickle_gate.specs.declared.judge.Made.TheVariants as made
use Rattle.pickle_gate.specs.Kept.{nothing_kept, judged_event, kept_behind, KeepsBehind}
use Rattle.pickle_gate.specs.Quiet.{IsUnseen, puts_items, filling_of}

neither_is : (a b : Bool) → not (a || b) ≡ true → (a ≡ false) × (b ≡ false)
neither_is true b e = absurd cc
neither_is false true e = absurd cc
neither_is false false e = (refl, refl)

-- what is not shown is no event
unshown : (heap : List Object) (id : ℕ) → option_map_or (is_shown heap) (slice_get heap id) false ≡ false → None ≡ made_event heap id
unshown heap id e = sym (ap (λ (b : Bool). if b then Some (event.Made id) else None) e) ∙ made_if_shown heap id

pub unseen_there : (heap : List Object) (id : ℕ) (c : Class) (x : Bool) → Some c ≡ class_at heap id → x ≡ not (is_any c || class_meets demand.ReadOnly c) → x ≡ true → IsUnseen heap id
unseen_there heap id c x e is q =
    let two = neither_is (is_any c) (class_meets demand.ReadOnly c) (sym is ∙ q) in
    let none : (x : Bool) → (is_any c || class_meets demand.ReadOnly c && x) ≡ false = λ x. rw (two.0, two.1) refl in
    record {
      made = unshown heap id (sym (shown_by_class heap id c e) ∙ none (option_map_or (is_view heap) (slice_get heap id) false));
      plain = sym (opaque_by_class heap id c e) ∙ two.0;
      fast = sym (loose_by_class heap id c e) ∙ none (view_at heap id);
    }

pub unseen_without : (heap : List Object) (id : ℕ) → None ≡ class_at heap id → IsUnseen heap id
unseen_without heap id e =
    record {
      made = unshown heap id (sym (shown_without_class heap id e));
      plain = sym (opaque_without_class heap id e);
      fast = sym (loose_without_class heap id e);
    }

-- items that go into an object of which no event tells
fills_quietly : (f : Filling) (b : Before) (t : State) → puts_items f ≡ true → IsUnseen t.heap (top_of t) → None ≡ filled_event f b t
fills_quietly filling.Append b t e u = rw u.fast refl
fills_quietly filling.Add b t e u = rw u.fast refl
fills_quietly filling.SetItem b t e u = go (nat_lt 0 (filled_count filling.SetItem (taken_count b t)))
  where
    go : (some : Bool) → None ≡ (if some && object_is is_opaque t.heap (top_of t) then Some (event.Filled filling.SetItem (filled_count filling.SetItem (taken_count b t)) (top_of t)) else None)
    go true = rw u.plain refl
    go false = refl
fills_quietly filling.Build b t e u = absurd cc

pub fill_is_quiet : (f : Filling) (b : Before) (t : State) (puts x : Bool) (id : ℕ) → puts ≡ puts_items f → puts ≡ true → id ≡ top_of t → (x ≡ true → IsUnseen t.heap id) → x ≡ true → None ≡ filled_event f b t
fill_is_quiet f b t puts x id is p top unseen q = fills_quietly f b t (sym is ∙ p) (subst (IsUnseen t.heap) top (unseen q))

-- a step of a row that puts objects into another, and of any other row
pub quiet_fill : (r : Row) (b : Before) (t : State) (f : Filling) (x : Bool) → Some f ≡ filling_of r → ((c : Before) → x ≡ true → None ≡ filled_event f c t) → x ≡ true → None ≡ event_of r b t
quiet_fill (row.Change g) b t f x e quiet q = let same : f ≡ g = cc in subst (λ (h : Filling). None ≡ filled_event h b t) same (quiet b q)
quiet_fill (row.CutChange g) b t f x e quiet q = let same : f ≡ g = cc in subst (λ (h : Filling). None ≡ filled_event h b t) same (quiet b q)
quiet_fill _ b t f x e quiet q = absurd cc

pub quiet_made : (r : Row) (b : Before) (t : State) (x : Bool) → None ≡ filling_of r → (x ≡ true → IsUnseen t.heap b.next) → x ≡ true → None ≡ event_of r b t
quiet_made (row.Change g) b t x e unseen q = absurd cc
quiet_made (row.CutChange g) b t x e unseen q = absurd cc
quiet_made _ b t x e unseen q = (unseen q).made

pub ruleset quiet_rules = (unseen_there, unseen_without, fill_is_quiet, quiet_fill, quiet_made)

-- ---- what is kept

pub keeps_bad : (list : List Entry) (proto : ℕ) (r : Row) (b : Before) (t : State) (old : List Kept) → made.Forbidden ≡ judged_event list proto t.heap old (event_of r b t)
    → KeepsBehind list proto r b t old old false
keeps_bad list proto r b t old e = record { bad = λ _. e; fine = λ q. absurd (false≢true q) }

pub keeps_good : (list : List Entry) (proto : ℕ) (r : Row) (b : Before) (t : State) (old new : List Kept) (g : Kept) → made.Allowed g ≡ judged_event list proto t.heap old (event_of r b t)
    → new ≡ kept_behind t.heap g (event_of r b t) old → KeepsBehind list proto r b t old new true
keeps_good list proto r b t old new g e k = record { bad = λ q. absurd (false≢true (sym q)); fine = λ _. (g, e, k) }

pub keeps_quiet : (list : List Entry) (proto : ℕ) (r : Row) (b : Before) (t : State) (old new : List Kept) → None ≡ event_of r b t → new ≡ kept_behind t.heap nothing_kept None old
    → KeepsBehind list proto r b t old new true
keeps_quiet list proto r b t old new e k =
    keeps_good list proto r b t old new nothing_kept (ap (judged_event list proto t.heap old) e) (k ∙ ap (λ (x : Option Event). kept_behind t.heap nothing_kept x old) e)

pub ruleset kept_rules = (keeps_bad, keeps_good, keeps_quiet)
