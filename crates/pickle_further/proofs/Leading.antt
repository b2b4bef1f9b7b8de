-- Imports that lead to the unpickler.
use Rattle.std.proofs.Common.{◌≡◌, ℕ, zero, suc, ◌+◌, ◌-◌, ◌<◌, ◌≤◌, Bool, true, false, List, length, Option, Some, None, refl, sym, ap, ◌∙◌, arith}
use Rattle.std.specs.Prelude.{◌&&◌, slice_get}
use Rattle.std.specs.Option.{option_map, option_map_or}
use Rattle.pickle_ops.specs.declared.kind.Kind.{Kind}
use Rattle.pickle_ops.specs.declared.kind.Kind.TheVariants as kind
use Rattle.pickle_ops.specs.declared.kind_ref.Look.{Look}
use Rattle.pickle_ops.specs.declared.class.Class.{Class}
use Rattle.pickle_ops.specs.Object.{Object}
use Rattle.pickle_ops.specs.Class.{is_any}
use Rattle.pickle_ops.specs.Kind.{class_of}
use Rattle.pickle_machine.specs.Seen.{class_at}
use Rattle.pickle_ops.specs.KindRef.{kind_view, parts_shown, shown, look_shown}
use Rattle.pickle_calls.proofs.Looks.{there, absent}
use Rattle.pickle_further.specs.Leads.{name_of, name_at, kind_leads, leads_at, or_first, if_leads, first_of}

-- ---- what a look says

pub name_there : (heap : List Object) (id : ℕ) (l : Look) → Some (look_shown l) ≡ option_map shown (slice_get heap id) → name_of (kind_view l.kind) ≡ name_at heap (Some id)
name_there heap id l e = there (λ (k : Kind) (_ : List ℕ). name_of k) None l (slice_get heap id) (λ k parts. refl) e

pub name_absent : (heap : List Object) (id : ℕ) → None ≡ option_map shown (slice_get heap id) → None ≡ name_at heap (Some id)
name_absent heap id e = absent (λ (o : Object). name_of o.kind) None (slice_get heap id) e

leads_same : (heap : List Object) (k : Kind) (parts : List ℕ) → kind_leads heap k (parts_shown k parts) ≡ kind_leads heap k parts
leads_same heap kind.StackGlobal parts = refl
leads_same heap _ parts = refl

pub leads_there : (heap : List Object) (id : ℕ) (l : Look) → Some (look_shown l) ≡ option_map shown (slice_get heap id) → kind_leads heap (kind_view l.kind) l.parts.now ≡ leads_at heap id
unfolding leads_at
leads_there heap id l e = there (kind_leads heap) false l (slice_get heap id) (leads_same heap) e

pub leads_absent : (heap : List Object) (id : ℕ) → None ≡ option_map shown (slice_get heap id) → false ≡ leads_at heap id
unfolding leads_at
leads_absent heap id e = absent (λ (o : Object). kind_leads heap o.kind o.parts) false (slice_get heap id) e

pub ruleset lead_rules = (name_there, name_absent, leads_there, leads_absent)

-- ---- what a class says

leads_opaque : (heap : List Object) (k : Kind) (parts : List ℕ) → (is_any (class_of k) && kind_leads heap k parts) ≡ kind_leads heap k parts
leads_opaque heap (kind.Global names) parts = refl
leads_opaque heap (kind.Inst names) parts = refl
leads_opaque heap kind.StackGlobal parts = refl
leads_opaque heap _ parts = refl

leads_by : (heap : List Object) (c : Class) (g : Option Object) → Some c ≡ option_map (λ (o : Object). class_of o.kind) g
    → (is_any c && option_map_or (λ (o : Object). kind_leads heap o.kind o.parts) g false) ≡ option_map_or (λ (o : Object). kind_leads heap o.kind o.parts) g false
leads_by heap c None e = absurd cc
leads_by heap c (Some o) e = let h : c ≡ class_of o.kind = cc in rw h (leads_opaque heap o.kind o.parts)

none_by : (heap : List Object) (g : Option Object) → None ≡ option_map (λ (o : Object). class_of o.kind) g → false ≡ option_map_or (λ (o : Object). kind_leads heap o.kind o.parts) g false
none_by heap None e = refl
none_by heap (Some o) e = absurd cc

pub leads_by_class : (heap : List Object) (id : ℕ) (c : Class) → Some c ≡ class_at heap id → (is_any c && leads_at heap id) ≡ leads_at heap id
unfolding leads_at
leads_by_class heap id c e = leads_by heap c (slice_get heap id) e

pub leads_without_class : (heap : List Object) (id : ℕ) → None ≡ class_at heap id → false ≡ leads_at heap id
unfolding leads_at
leads_without_class heap id e = none_by heap (slice_get heap id) e

pub ruleset class_rules = (leads_by_class, leads_without_class)

-- ---- the first

pub or_first_assoc : (a b c : Option ℕ) → or_first a (or_first b c) ≡ or_first (or_first a b) c
or_first_assoc None b c = refl
or_first_assoc (Some x) b c = refl

pub or_first_none : (a : Option ℕ) → or_first a None ≡ a
or_first_none None = refl
or_first_none (Some x) = refl

pub none_of_none : (is : ℕ → Bool) → first_of is 0 ≡ None
unfolding first_of
none_of_none is = refl

pub none_yet : (is : ℕ → Bool) (n : ℕ) → first_of is n ≡ None → is n ≡ false → first_of is (suc n) ≡ None
unfolding first_of
none_yet is n none e = rw (none, e) refl

found_here : (is : ℕ → Bool) (n : ℕ) → first_of is n ≡ None → is n ≡ true → first_of is (suc n) ≡ Some n
unfolding first_of
found_here is n none e = rw (none, e) refl

none_more : (n : ℕ) → 0 + n ≡ n
none_more n = omega arith

one_more : (more n : ℕ) → suc more + n ≡ suc (more + n)
one_more more n = omega arith

stays : (is : ℕ → Bool) (n k more : ℕ) → first_of is n ≡ Some k → first_of is (more + n) ≡ Some k
unfolding first_of
stays is n k zero e = ap (first_of is) (none_more n) ∙ e
stays is n k (suc more) e = ap (first_of is) (one_more more n) ∙ ap (λ (x : Option ℕ). or_first x (if_leads (is (more + n)) (more + n))) (stays is n k more e)

pub first_found : (is : ℕ → Bool) (n all : ℕ) → first_of is n ≡ None → is n ≡ true → n < all → Some n ≡ first_of is all
first_found is n all none e less =
    let more : (all - suc n) + suc n ≡ all = omega (arith, less) in
    sym (ap (first_of is) (sym more) ∙ stays is (suc n) n (all - suc n) (found_here is n none e))
