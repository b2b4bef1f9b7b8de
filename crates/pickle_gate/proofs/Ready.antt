-- What is kept of objects behind an event.
use Rattle.std.proofs.Common.{◌≡◌, ℕ, zero, suc, ◌<◌, ◌≤◌, Bool, true, false, List, [], ◌∷◌, ◌++◌, length, Option, Some, None, inl, inr, refl, sym, ap, ap₂, ◌∙◌, arith}
use Rattle.std.specs.Prelude.{◌==◌, ◌&&◌, ◌||◌, not, slice_get, slice_set, if◌then◌else◌}
use Rattle.std.specs.Option.{option_map_or}
use Rattle.std.proofs.lemmas.Bool.{cases_eq, eqb-true, eq-eqb, ne_eqb, or_right, and_parts}
use Rattle.std.proofs.lemmas.List.{length-set, set_past}
use Rattle.pickle_ops.specs.declared.kind.Kind.{Kind}
use Rattle.pickle_ops.specs.declared.kind.Kind.TheVariants as kind
use Rattle.pickle_ops.specs.Object.{Object}
use Rattle.pickle_allow.specs.declared.list.Use.{Use}
use Rattle.pickle_allow.specs.declared.list.Use.TheVariants as use_of
use Rattle.pickle_allow.specs.declared.list.Entry.{Entry}
use Rattle.pickle_allow.specs.Allow.{Source, has}
use Rattle.pickle_allow.specs.Source.{source_at}
use Rattle.pickle_allow.specs.Arguments.{may_be_given, may_be_set}
use Rattle.pickle_calls.specs.declared.event.Event.{Event}
use Rattle.pickle_calls.specs.declared.event.Event.TheVariants as event
use Rattle.pickle_gate.specs.declared.packed.Kept.{Kept}
use Rattle.pickle_gate.specs.declared.judge.Made.{Made}
use Rattle.pickle_gate.specs.declared.judge.Made.TheVariants as made
use Rattle.pickle_gate.specs.Gate.{maker, maker_by, part_is, is_this, gives_state, may_name_at, names_by, may_be_state, Past}
use Rattle.pickle_gate.specs.Kept.{nothing_kept, kept_of, kept_at, is_named, AreKept, may_change, made_by, call_made, instance_made, callee, called, instance, making, only_if, allowed_if, judged_event, set_ready, set_used, ready_by, used_by}
use Rattle.pickle_gate.proofs.Growth.{is_making}

pub or_false : (b : Bool) → (b || false) ≡ b
or_false true = refl
or_false false = refl

or_true : (b : Bool) → (b || true) ≡ true
or_true true = refl
or_true false = refl

-- ---- a list of which one is set

set_here : (keeps : List Kept) (id : ℕ) (k : Kept) → id < length keeps → kept_at (slice_set keeps id k) id ≡ k
set_here [] id k h = absurd (omega (arith, h))
set_here (g ∷ keeps) zero k h = refl
set_here (g ∷ keeps) (suc id) k h = set_here keeps id k (omega (arith, h))

set_there : (keeps : List Kept) (target id : ℕ) (k : Kept) → (target ≡ id → ⊥) → kept_at (slice_set keeps target k) id ≡ kept_at keeps id
set_there [] target id k other = refl
set_there (h ∷ keeps) zero zero k other = absurd (other refl)
set_there (h ∷ keeps) zero (suc id) k other = refl
set_there (h ∷ keeps) (suc target) zero k other = refl
set_there (h ∷ keeps) (suc target) (suc id) k other = set_there keeps target id k (λ e. other (ap suc e))

-- what is not there is not set
pub set_nowhere : (keeps : List Kept) (target : ℕ) (k : Kept) → length keeps ≤ target → keeps ≡ slice_set keeps target k
set_nowhere keeps target k h = sym (set_past keeps target k h)

pub ruleset ready_rules = (set_nowhere)

pub kept_past : (keeps : List Kept) (id : ℕ) → length keeps ≤ id → kept_at keeps id ≡ nothing_kept
kept_past [] id h = refl
kept_past (k ∷ keeps) zero h = absurd (omega (arith, h))
kept_past (k ∷ keeps) (suc id) h = kept_past keeps id (omega (arith, h))

-- ---- behind an event that makes nothing

pub ready_length : (heap : List Object) (x : Option Event) (keeps : List Kept) → length (ready_by heap x keeps) ≡ length keeps
ready_length heap None keeps = refl
ready_length heap (Some (event.Made id)) keeps = refl
ready_length heap (Some (event.State value target)) keeps = length-set keeps target (set_ready (may_name_at heap value) (kept_at keeps target))
ready_length heap (Some (event.Filled how count target)) keeps = refl

-- with this done besides
abbrev pub past_with : List Object → Past → Option Event → Past
past_with heap past x =
    record {
      had = λ (id : ℕ). past.had id || gives_state heap past.had x id;
      made = λ (id : ℕ). past.made id || part_is (is_this id) (maker_by heap x);
      named = λ (id : ℕ). past.named id || names_by heap past.named x id;
    }

abbrev SameEach : List Entry → List (Option Source) → Past → List Kept → ℕ → Type 0
SameEach list from past keeps id = kept_at keeps id ≡ kept_of list (source_at from id) (past.had id) (past.made id) (past.named id)

same_each : (list : List Entry) (from : List (Option Source)) (past : Past) (keeps : List Kept) (id : ℕ) → SameEach list from past keeps id
    → kept_at keeps id ≡ kept_of list (source_at from id) (past.had id || false) (past.made id || false) (past.named id || false)
same_each list from past keeps id e =
    e
    ∙ ap₂ (λ (h m : Bool). kept_of list (source_at from id) h m (past.named id)) (sym (or_false (past.had id))) (sym (or_false (past.made id)))
    ∙ ap (λ (n : Bool). kept_of list (source_at from id) (past.had id || false) (past.made id || false) n) (sym (or_false (past.named id)))

pub ready_each : (list : List Entry) (from : List (Option Source)) (heap : List Object) (past : Past) (keeps : List Kept) (x : Option Event) → AreKept list from past keeps → is_making x ≡ false
    → ((id : ℕ) → gives_state heap past.had x id ≡ true → id < length keeps) → (id : ℕ) → SameEach list from (past_with heap past x) (ready_by heap x keeps) id
ready_each list from heap past keeps None kept quiet within id = same_each list from past keeps id (kept.each id)
ready_each list from heap past keeps (Some (event.Made n)) kept quiet within id = absurd cc
ready_each list from heap past keeps (Some (event.Filled how count target)) kept quiet within id = same_each list from past keeps id (kept.each id)
ready_each list from heap past keeps (Some (event.State value target)) kept quiet within id =
    elim (cases_eq target id) [
      | inl same ↦
          let yes : (target == id) ≡ true = eq-eqb target id same in
          let names : Bool = may_name_at heap value in
          ap (λ (i : ℕ). kept_at (slice_set keeps i (set_ready names (kept_at keeps i))) id) same
          ∙ set_here keeps id (set_ready names (kept_at keeps id)) (within id yes)
          ∙ ap (set_ready names) (kept.each id)
          ∙ ap₂ (λ (h m : Bool). kept_of list (source_at from id) h m (past.named id || names)) (sym (ap (λ (b : Bool). past.had id || b) yes ∙ or_true (past.had id))) (sym (or_false (past.made id)))
          ∙ ap (λ (b : Bool). kept_of list (source_at from id) (past.had id || (target == id)) (past.made id || false) (past.named id || (b && names))) (sym yes)
      | inr other ↦
          set_there keeps target id (set_ready (may_name_at heap value) (kept_at keeps target)) other
          ∙ same_each list from past keeps id (kept.each id)
          ∙ ap (λ (b : Bool). kept_of list (source_at from id) (past.had id || b) (past.made id || false) (past.named id || (b && may_name_at heap value))) (sym (ne_eqb target id other))
    ]

-- ---- behind the making of an object

pub used_length : (m : Option ℕ) (keeps : List Kept) → length (used_by m keeps) ≡ length keeps
used_length None keeps = refl
used_length (Some id) keeps = length-set keeps id (set_used (kept_at keeps id))

abbrev pub used_with : Past → Option ℕ → Past
used_with past m = record { had = past.had; made = λ (id : ℕ). past.made id || part_is (is_this id) m; named = past.named }

pub used_each : (list : List Entry) (from : List (Option Source)) (past : Past) (keeps : List Kept) (m : Option ℕ) → AreKept list from past keeps → ((i : ℕ) → m ≡ Some i → i < length keeps)
    → (id : ℕ) → SameEach list from (used_with past m) (used_by m keeps) id
used_each list from past keeps None kept within id =
    kept.each id ∙ ap (λ (b : Bool). kept_of list (source_at from id) (past.had id) b (past.named id)) (sym (or_false (past.made id)))
used_each list from past keeps (Some i) kept within id =
    elim (cases_eq i id) [
      | inl same ↦
          let yes : is_this id i ≡ true = eq-eqb i id same in
          let there : i < length keeps = within i refl in
          ap (λ (j : ℕ). kept_at (slice_set keeps j (set_used (kept_at keeps j))) id) same
          ∙ set_here keeps id (set_used (kept_at keeps id)) (omega (arith, there, same))
          ∙ ap set_used (kept.each id)
          ∙ ap (λ (b : Bool). kept_of list (source_at from id) (past.had id) b (past.named id)) (sym (ap (λ (b : Bool). past.made id || b) yes ∙ or_true (past.made id)))
      | inr other ↦
          set_there keeps i id (set_used (kept_at keeps i)) other
          ∙ kept.each id
          ∙ ap (λ (b : Bool). kept_of list (source_at from id) (past.had id) b (past.named id)) (sym (ap (λ (b : Bool). past.made id || b) (ne_eqb i id other) ∙ or_false (past.made id)))
    ]

pub moved : (list : List Entry) (s : Option Source) (past next : Past) (id : ℕ) → past.had id ≡ next.had id → past.made id ≡ next.made id → past.named id ≡ next.named id
    → kept_of list s (past.had id) (past.made id) (past.named id) ≡ kept_of list s (next.had id) (next.made id) (next.named id)
moved list s past next id h m n = ap₂ (λ (a b : Bool). kept_of list s a b (past.named id)) h m ∙ ap (λ (b : Bool). kept_of list s (next.had id) (next.made id) b) n

-- with one more; what was done changes for no other
pub more_each : (list : List Entry) (from : List (Option Source)) (past next : Past) (keeps : List Kept) (x : Option Source) (k : Kept) → length keeps ≡ length from
    → ((id : ℕ) → SameEach list from past keeps id) → ((id : ℕ) → (id ≡ length from → ⊥) → past.had id ≡ next.had id) → ((id : ℕ) → past.made id ≡ next.made id)
    → ((id : ℕ) → (id ≡ length from → ⊥) → past.named id ≡ next.named id) → k ≡ kept_of list x (next.had (length from)) (next.made (length from)) (next.named (length from)) → (id : ℕ) → SameEach list (from ++ x ∷ []) next (keeps ++ k ∷ []) id
more_each list [] past next [] x k n each had made named is zero = is
more_each list [] past next [] x k n each had made named is (suc id) =
    each (suc id) ∙ moved list None past next (suc id) (had (suc id) (λ e. absurd (omega (arith, e)))) (made (suc id)) (named (suc id) (λ e. absurd (omega (arith, e))))
more_each list [] past next (h ∷ keeps) x k n each had made named is id = absurd (omega (arith, n))
more_each list (y ∷ from) past next [] x k n each had made named is id = absurd (omega (arith, n))
more_each list (y ∷ from) past next (h ∷ keeps) x k n each had made named is zero =
    each zero ∙ moved list y past next zero (had zero (λ e. absurd (omega (arith, e)))) (made zero) (named zero (λ e. absurd (omega (arith, e))))
more_each list (y ∷ from) past next (h ∷ keeps) x k n each had made named is (suc id) =
    more_each list from (later past) (later next) keeps x k (omega (arith, n)) (λ i. each (suc i)) (λ i o. had (suc i) (λ e. o (omega (arith, e)))) (λ i. made (suc i)) (λ i o. named (suc i) (λ e. o (omega (arith, e)))) is id
  where
    later : Past → Past
    later p = record { had = λ (i : ℕ). p.had (suc i); made = λ (i : ℕ). p.made (suc i); named = λ (i : ℕ). p.named (suc i) }

-- ---- what is looked at of an object that is allowed is there

has_within : (what : Use) (keeps : List Kept) (id : ℕ) → has (kept_at keeps id).grant.now what ≡ true → id < length keeps
has_within use_of.Call [] id e = absurd cc
has_within use_of.New [] id e = absurd cc
has_within use_of.State [] id e = absurd cc
has_within use_of.Fill [] id e = absurd cc
has_within what (k ∷ keeps) zero e = omega arith
has_within what (k ∷ keeps) (suc id) e = let rest : id < length keeps = has_within what keeps id e in omega (arith, rest)

is_if : (b : Bool) (k : Kept) → made.Allowed k ≡ allowed_if b → b ≡ true
is_if true k e = refl
is_if false k e = absurd cc

-- what gets a state
pub ready_within : (list : List Entry) (proto : ℕ) (heap : List Object) (past : Past) (keeps : List Kept) (x : Option Event) (k : Kept) (id : ℕ) → made.Allowed k ≡ judged_event list proto heap keeps x
    → is_making x ≡ false → gives_state heap past.had x id ≡ true → id < length keeps
ready_within list proto heap past keeps None k id good quiet e = absurd cc
ready_within list proto heap past keeps (Some (event.Made n)) k id good quiet e = absurd cc
ready_within list proto heap past keeps (Some (event.Filled how count target)) k id good quiet e = absurd cc
ready_within list proto heap past keeps (Some (event.State value target)) k id good quiet e =
    let may : Bool = may_change use_of.State (kept_at keeps target) in
    let rest : Bool = may_be_state (is_named keeps) heap value && may_be_set list proto heap value target in
    let two = and_parts may rest (is_if (may && rest) k good) in
    let has_it = and_parts (has (kept_at keeps target).grant.now use_of.State) (not ((kept_at keeps target).ready || (kept_at keeps target).used)) two.0 in
    let there : target < length keeps = has_within use_of.State keeps target has_it.0 in
    omega (arith, there, eqb-true target id e)

-- what something is made of
only_allowed : (good : Bool) (m : Made) (k : Kept) → made.Allowed k ≡ only_if good m → made.Allowed k ≡ m
only_allowed true m k e = e
only_allowed false m k e = absurd cc

if_allowed : (b : Bool) (g k : Kept) → made.Allowed k ≡ (if b then made.Allowed g else made.Forbidden) → b ≡ true
if_allowed true g k e = refl
if_allowed false g k e = absurd cc

call_within : (what : Use) (keeps : List Kept) (p : Option ℕ) (i : ℕ) (k : Kept) → made.Allowed k ≡ call_made what (callee keeps p) → p ≡ Some i → i < length keeps
call_within what keeps None i k e q = absurd cc
call_within what keeps (Some j) i k e q =
    let same : j ≡ i = cc in
    let there : j < length keeps = has_within what keeps j (if_allowed (has (kept_at keeps j).grant.now what) (made_by (kept_at keeps j)) k e) in
    omega (arith, there, same)

instance_within : (what : Use) (keeps : List Kept) (p : Option ℕ) (i : ℕ) (k : Kept) → made.Allowed k ≡ instance_made what (callee keeps p) → p ≡ Some i → i < length keeps
instance_within what keeps None i k e q = absurd cc
instance_within what keeps (Some j) i k e q =
    let same : j ≡ i = cc in
    let b : Bool = has (kept_at keeps j).grant.now what in
    let two = and_parts b (not (kept_at keeps j).ready) (if_allowed (b && not (kept_at keeps j).ready) (made_by (kept_at keeps j)) k e) in
    let there : j < length keeps = has_within what keeps j two.0 in
    omega (arith, there, same)

kind_within : (list : List Entry) (proto : ℕ) (heap : List Object) (keeps : List Kept) (o : Kind) (parts : List ℕ) (i : ℕ) (k : Kept) → made.Allowed k ≡ making list proto heap keeps o parts
    → maker o parts ≡ Some i → i < length keeps
kind_within list proto heap keeps kind.Call parts i k e q = call_within use_of.Call keeps (slice_get parts 0) i k e q
kind_within list proto heap keeps kind.New parts i k e q = instance_within use_of.New keeps (slice_get parts 0) i k e q
kind_within list proto heap keeps kind.NewEx parts i k e q = instance_within use_of.New keeps (slice_get parts 0) i k e q
kind_within list proto heap keeps kind.Obj parts i k e q = instance_within use_of.Call keeps (slice_get parts 0) i k e q
kind_within list proto heap keeps _ parts i k e q = absurd cc

pub maker_within : (list : List Entry) (proto : ℕ) (heap : List Object) (keeps : List Kept) (x : Option Event) (k : Kept) → made.Allowed k ≡ judged_event list proto heap keeps x
    → (i : ℕ) → maker_by heap x ≡ Some i → i < length keeps
maker_within list proto heap keeps None k good i q = absurd cc
maker_within list proto heap keeps (Some (event.State value target)) k good i q = absurd cc
maker_within list proto heap keeps (Some (event.Filled how count target)) k good i q = absurd cc
maker_within list proto heap keeps (Some (event.Made n)) k good i q = go (slice_get heap n) good q
  where
    go : (y : Option Object)
        → made.Allowed k ≡ option_map_or (λ (o : Object). only_if (may_be_given list proto heap o.kind o.parts) (making list proto heap keeps o.kind o.parts)) y (made.Allowed nothing_kept)
        → option_map_or (λ (o : Object). maker o.kind o.parts) y None ≡ Some i → i < length keeps
    go None f r = absurd cc
    go (Some o) f r = kind_within list proto heap keeps o.kind o.parts i k (only_allowed (may_be_given list proto heap o.kind o.parts) (making list proto heap keeps o.kind o.parts) k f) r
