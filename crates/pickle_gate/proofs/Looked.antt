-- An object that is looked at is judged as the object.
use Rattle.std.proofs.Common.{◌≡◌, ℕ, Bool, true, false, List, Option, Some, None, option_map, refl, ap, ap₂}
use Rattle.std.specs.Prelude.{not, slice_get}
use Rattle.std.specs.Option.{option_map_or}
use Rattle.pickle_ops.specs.declared.kind.Kind.{Kind}
use Rattle.pickle_ops.specs.declared.kind.Kind.TheVariants as kind
use Rattle.pickle_ops.specs.declared.kind_ref.Look.{Look}
use Rattle.pickle_ops.specs.Object.{Object}
use Rattle.pickle_ops.specs.KindRef.{kind_view, parts_shown, shown, look_shown}
use Rattle.pickle_allow.specs.declared.list.Entry.{Entry}
use Rattle.pickle_allow.specs.Arguments.{is_held, may_be_given}
use Rattle.pickle_allow.proofs.Taking.{there, absent, given_same}
use Rattle.pickle_calls.specs.declared.event.Event.TheVariants as event
use Rattle.pickle_gate.specs.declared.packed.Kept.{Kept}
use Rattle.pickle_gate.specs.declared.judge.Made.{Made}
use Rattle.pickle_gate.specs.declared.judge.Made.TheVariants as made
use Rattle.pickle_gate.specs.Gate.{maker, maker_by, is_plain_at, may_name, may_name_at, halves_may, halves_may_at}
use Rattle.pickle_gate.specs.Kept.{nothing_kept, making, only_if, judged_event}

making_same : (list : List Entry) (proto : ℕ) (heap : List Object) (keeps : List Kept) (k : Kind) (parts : List ℕ) → making list proto heap keeps k (parts_shown k parts) ≡ making list proto heap keeps k parts
making_same list proto heap keeps kind.StackGlobal parts = refl
making_same list proto heap keeps kind.Call parts = refl
making_same list proto heap keeps kind.New parts = refl
making_same list proto heap keeps kind.NewEx parts = refl
making_same list proto heap keeps kind.Obj parts = refl
making_same list proto heap keeps _ parts = refl

abbrev judged_kind : List Entry → ℕ → List Object → List Kept → Kind → List ℕ → Made
judged_kind list proto heap keeps k parts = only_if (may_be_given list proto heap k parts) (making list proto heap keeps k parts)

judged_same : (list : List Entry) (proto : ℕ) (heap : List Object) (keeps : List Kept) (k : Kind) (parts : List ℕ) → judged_kind list proto heap keeps k (parts_shown k parts) ≡ judged_kind list proto heap keeps k parts
judged_same list proto heap keeps k parts = ap₂ only_if (given_same list proto heap k parts) (making_same list proto heap keeps k parts)

pub judged_there : (list : List Entry) (proto : ℕ) (heap : List Object) (keeps : List Kept) (id : ℕ) (l : Look) → Some (look_shown l) ≡ option_map shown (slice_get heap id)
    → only_if (may_be_given list proto heap (kind_view l.kind) l.parts.now) (making list proto heap keeps (kind_view l.kind) l.parts.now) ≡ judged_event list proto heap keeps (Some (event.Made id))
judged_there list proto heap keeps id l e = there (judged_kind list proto heap keeps) (made.Allowed nothing_kept) l (slice_get heap id) (judged_same list proto heap keeps) e

pub judged_absent : (list : List Entry) (proto : ℕ) (heap : List Object) (keeps : List Kept) (id : ℕ) → None ≡ option_map shown (slice_get heap id)
    → made.Allowed nothing_kept ≡ judged_event list proto heap keeps (Some (event.Made id))
judged_absent list proto heap keeps id e = absent (λ (o : Object). judged_kind list proto heap keeps o.kind o.parts) (made.Allowed nothing_kept) (slice_get heap id) e

pub ruleset judge_rules = (judged_there, judged_absent)

-- ---- what it is made of, and whether it may be a state

maker_same : (k : Kind) (parts : List ℕ) → maker k (parts_shown k parts) ≡ maker k parts
maker_same kind.Call parts = refl
maker_same kind.New parts = refl
maker_same kind.NewEx parts = refl
maker_same kind.Obj parts = refl
maker_same _ parts = refl

pub maker_there : (heap : List Object) (id : ℕ) (l : Look) → Some (look_shown l) ≡ option_map shown (slice_get heap id) → maker (kind_view l.kind) l.parts.now ≡ maker_by heap (Some (event.Made id))
maker_there heap id l e = there maker None l (slice_get heap id) maker_same e

pub maker_absent : (heap : List Object) (id : ℕ) → None ≡ option_map shown (slice_get heap id) → None ≡ maker_by heap (Some (event.Made id))
maker_absent heap id e = absent (λ (o : Object). maker o.kind o.parts) None (slice_get heap id) e

pub plain_there : (heap : List Object) (id : ℕ) (l : Look) → Some (look_shown l) ≡ option_map shown (slice_get heap id) → not (is_held (kind_view l.kind)) ≡ is_plain_at heap id
plain_there heap id l e = there (λ (k : Kind) (parts : List ℕ). not (is_held k)) false l (slice_get heap id) (λ k parts. refl) e

pub plain_absent : (heap : List Object) (id : ℕ) → None ≡ option_map shown (slice_get heap id) → false ≡ is_plain_at heap id
plain_absent heap id e = absent (λ (o : Object). not (is_held o.kind)) false (slice_get heap id) e

halves_same : (had : ℕ → Bool) (heap : List Object) (k : Kind) (parts : List ℕ) → halves_may had heap k (parts_shown k parts) ≡ halves_may had heap k parts
halves_same had heap kind.Tuple parts = refl
halves_same had heap kind.Call parts = refl
halves_same had heap kind.New parts = refl
halves_same had heap kind.NewEx parts = refl
halves_same had heap kind.Obj parts = refl
halves_same had heap (kind.Inst names) parts = refl
halves_same had heap _ parts = refl

name_same : (k : Kind) (parts : List ℕ) → may_name k (parts_shown k parts) ≡ may_name k parts
name_same kind.Tuple parts = refl
name_same kind.Dict parts = refl
name_same _ parts = refl

pub name_there : (heap : List Object) (id : ℕ) (l : Look) → Some (look_shown l) ≡ option_map shown (slice_get heap id) → may_name (kind_view l.kind) l.parts.now ≡ may_name_at heap id
name_there heap id l e = there may_name false l (slice_get heap id) name_same e

pub name_absent : (heap : List Object) (id : ℕ) → None ≡ option_map shown (slice_get heap id) → false ≡ may_name_at heap id
name_absent heap id e = absent (λ (o : Object). may_name o.kind o.parts) false (slice_get heap id) e

pub halves_there : (had : ℕ → Bool) (heap : List Object) (id : ℕ) (l : Look) → Some (look_shown l) ≡ option_map shown (slice_get heap id)
    → halves_may had heap (kind_view l.kind) l.parts.now ≡ halves_may_at had heap id
halves_there had heap id l e = there (halves_may had heap) true l (slice_get heap id) (halves_same had heap) e

pub halves_absent : (had : ℕ → Bool) (heap : List Object) (id : ℕ) → None ≡ option_map shown (slice_get heap id) → true ≡ halves_may_at had heap id
halves_absent had heap id e = absent (λ (o : Object). halves_may had heap o.kind o.parts) true (slice_get heap id) e

pub ruleset state_rules = (maker_there, maker_absent, plain_there, plain_absent, name_there, name_absent, halves_there, halves_absent)
