-- Tuples that are nested too deep.
use Rattle.std.proofs.Common.{◌≡◌, ◌<◌, ◌≤◌, ℕ, suc, Bool, true, false, List, ◌∷◌, ◌++◌, [], Option, Some, None, refl, sym, ap, ◌∙◌, inl, inr, arith}
use Rattle.std.proofs.lemmas.Bool.{cases_Bool, ltb-true, ltb-false}
use Rattle.std.specs.Prelude.{nat_lt, slice_get}
use Rattle.std.specs.Option.{option_map, option_map_or}
use Rattle.pickle_ops.specs.declared.kind.Kind.{Kind}
use Rattle.pickle_ops.specs.declared.kind.Kind.TheVariants as kind
use Rattle.pickle_ops.specs.declared.kind_ref.Look.{Look}
use Rattle.pickle_ops.specs.declared.class.Class.{Class}
use Rattle.pickle_ops.specs.Object.{Object}
use Rattle.pickle_ops.specs.Kind.{class_of}
use Rattle.pickle_ops.specs.KindRef.{kind_view, parts_shown, shown, look_shown}
use Rattle.pickle_machine.specs.Seen.{class_at}
use Rattle.pickle_calls.proofs.Looks.{there, absent}
use Rattle.pickle_further.specs.Deep.{is_tuple, are_tuples, deepest, depth_by, depth_at, depths, is_deep}

-- ---- what a look says

depth_same : (before : List ℕ) (k : Kind) (parts : List ℕ) → depth_by before k (parts_shown k parts) ≡ depth_by before k parts
depth_same before kind.Tuple parts = refl
depth_same before _ parts = refl

pub depth_there : (before : List ℕ) (heap : List Object) (id : ℕ) (l : Look) → Some (look_shown l) ≡ option_map shown (slice_get heap id) → depth_by before (kind_view l.kind) l.parts.now ≡ depth_at before heap id
unfolding depth_at
depth_there before heap id l e = there (depth_by before) 0 l (slice_get heap id) (depth_same before) e

pub depth_absent : (before : List ℕ) (heap : List Object) (id : ℕ) → None ≡ option_map shown (slice_get heap id) → 0 ≡ depth_at before heap id
unfolding depth_at
depth_absent before heap id e = absent (λ (o : Object). depth_by before o.kind o.parts) 0 (slice_get heap id) e

pub ruleset depth_rules = (depth_there, depth_absent)

-- ---- what a class says

tuples_are : (k : Kind) → are_tuples (class_of k) ≡ is_tuple k
tuples_are kind.Tuple = refl
tuples_are _ = refl

other_by : (before : List ℕ) (c : Class) (g : Option Object) → Some c ≡ option_map (λ (o : Object). class_of o.kind) g → are_tuples c ≡ false → 0 ≡ option_map_or (λ (o : Object). depth_by before o.kind o.parts) g 0
other_by before c None e none = absurd cc
other_by before c (Some o) e none =
    let same : c ≡ class_of o.kind = cc in
    let off : is_tuple o.kind ≡ false = sym (tuples_are o.kind) ∙ ap are_tuples (sym same) ∙ none in
    rw off refl

pub depth_other : (before : List ℕ) (heap : List Object) (id : ℕ) (c : Class) → Some c ≡ class_at heap id → are_tuples c ≡ false → 0 ≡ depth_at before heap id
unfolding depth_at
depth_other before heap id c e none = other_by before c (slice_get heap id) e none

none_by : (before : List ℕ) (g : Option Object) → None ≡ option_map (λ (o : Object). class_of o.kind) g → 0 ≡ option_map_or (λ (o : Object). depth_by before o.kind o.parts) g 0
none_by before None e = refl
none_by before (Some o) e = absurd cc

pub depth_without_class : (before : List ℕ) (heap : List Object) (id : ℕ) → None ≡ class_at heap id → 0 ≡ depth_at before heap id
unfolding depth_at
depth_without_class before heap id e = none_by before (slice_get heap id) e

pub ruleset class_rules = (depth_other, depth_without_class)

-- ---- the depths of all

pub no_depths : (heap : List Object) → depths heap 0 ≡ []
unfolding depths
no_depths heap = refl

pub one_more_depth : (heap : List Object) (n : ℕ) (items : List ℕ) (depth : ℕ) → items ≡ depths heap n → depth ≡ depth_at items heap n → items ++ depth ∷ [] ≡ depths heap (suc n)
unfolding depths
one_more_depth heap n items depth are is = rw (is, are) refl

pub deep_here : (heap : List Object) (id depth : ℕ) (items : List ℕ) (b : Bool) → items ≡ depths heap id → depth ≡ depth_at items heap id → nat_lt 100 depth ≡ b → is_deep heap id ≡ b
deep_here heap id depth items b are is e = ap (λ (l : List ℕ). nat_lt 100 (depth_at l heap id)) (sym are) ∙ ap (nat_lt 100) (sym is) ∙ e

pub over : (depth : ℕ) → 100 < depth → nat_lt 100 depth ≡ true
over depth h = elim (cases_Bool (nat_lt 100 depth)) [
  | inl is ↦ is
  | inr off ↦ absurd (omega (arith, ltb-false 100 depth off, h))
]

pub not_over : (depth : ℕ) → depth ≤ 100 → nat_lt 100 depth ≡ false
not_over depth h = elim (cases_Bool (nat_lt 100 depth)) [
  | inl is ↦ absurd (omega (arith, ltb-true 100 depth is, h))
  | inr off ↦ off
]
