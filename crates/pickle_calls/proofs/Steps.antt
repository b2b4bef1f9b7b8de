-- What a move does to the heap, object by object, and its event.
use Rattle.std.proofs.Common.{◌≡◌, ◌⊎◌, ℕ, zero, suc, ◌+◌, ◌-◌, ◌/◌, ◌<◌, ◌≤◌, Bool, true, false, List, [], ◌∷◌, ◌++◌, length, Option, Some, None, refl, sym, ap, ◌∙◌, inl, inr, arith, length-append}
use Rattle.std.specs.Prelude.{slice_get, slice_set, ◌&&◌, ◌||◌, nat_lt, if◌then◌else◌}
use Rattle.std.specs.Option.{option_map_or, unwrap_or}
use Rattle.std.proofs.lemmas.Bool.{cases_lt, lt-ltb}
use Rattle.std.proofs.lemmas.Option.{slice_get_past, slice_get_within, unwrap_or-slice_get}
use Rattle.pickle_doc.proofs.Lists.{get-within, get-behind}
use Rattle.pickle_ops.specs.declared.kind.Kind.{Kind}
use Rattle.pickle_ops.specs.declared.row.Filling.{Filling}
use Rattle.pickle_ops.specs.declared.row.Filling.TheVariants as filling
use Rattle.pickle_ops.specs.declared.object.Change.{Change}
use Rattle.pickle_ops.specs.Object.{Object}
use Rattle.pickle_ops.specs.Kind.{is_opaque}
use Rattle.pickle_machine.specs.State.{State, stack_size, objects_below}
use Rattle.pickle_machine.specs.Loader.{view_at}
use Rattle.pickle_machine.specs.Move.{changed, changes_of, pairs_of, deep}
use Rattle.pickle_machine.proofs.Shown.{last_of_more, length-objects_below}
use Rattle.pickle_calls.specs.declared.event.Event.{Event}
use Rattle.pickle_calls.specs.declared.event.Before.{Before}
use Rattle.pickle_calls.specs.Event.{top_of, object_is, is_shown, is_view, made_event, made_as, taken_count, filled_count, filled_event}

-- ---- truth values

pub some_same : {A : Type 0} (o : Option A) (a b : A) → o ≡ Some a → o ≡ Some b → a ≡ b
some_same None a b e f = absurd cc
some_same (Some x) a b e f = cc

-- where what is asked holds, there is something
shown_none : {A : Type 0} (b : Bool) (x : A) → (if b then Some x else None) ≡ None → b ≡ false
shown_none true x e = absurd cc
shown_none false x e = refl

pub shown_some : {A : Type 0} (b : Bool) (x y : A) → (if b then Some x else None) ≡ Some y → (b ≡ true) × (x ≡ y)
shown_some true x y e = (refl, cc)
shown_some false x y e = absurd cc

either : (a b : Bool) → (a || b) ≡ true → (a ≡ true) ⊎ (b ≡ true)
either true b e = inl refl
either false b e = inr e

neither : (a b : Bool) → (a || b) ≡ false → a ≡ false
neither true b e = absurd cc
neither false b e = refl

one_not : (a b : Bool) → (a && b) ≡ false → (a ≡ false) ⊎ (b ≡ false)
one_not true b e = inr e
one_not false b e = inl refl

not_below : (n : ℕ) → nat_lt 0 n ≡ false → n ≡ 0
not_below zero e = refl
not_below (suc n) e = let t : nat_lt 0 (suc n) ≡ true = lt-ltb 0 (suc n) (omega arith) in let no : true ≡ false = sym t ∙ e in absurd cc

-- ---- one object more

pub get_pushed : (heap : List Object) (x : Object) (id : ℕ) (o : Object) → slice_get (heap ++ x ∷ []) id ≡ Some o → (slice_get heap id ≡ Some o) ⊎ ((id ≡ length heap) × (o ≡ x))
get_pushed heap x id o e = elim (cases_lt id (length heap)) [
  | inl there ↦ inl (sym (get-within heap (x ∷ []) id there) ∙ e)
  | inr far ↦
      let within : id < length (heap ++ x ∷ []) = slice_get_within (heap ++ x ∷ []) id o e in
      let last : id ≡ length heap = omega (arith, within, far, length-append heap (x ∷ [])) in
      let is : slice_get (heap ++ x ∷ []) id ≡ Some x = ap (slice_get (heap ++ x ∷ [])) last ∙ last_of_more heap x in
      inr (last, some_same (slice_get (heap ++ x ∷ []) id) o x e is)
]

-- an object whose making is not shown is not opaque
pub pushed_unseen : (heap : List Object) (x : Object) → made_event (heap ++ x ∷ []) (length heap) ≡ None
    → (id : ℕ) (o : Object) → slice_get (heap ++ x ∷ []) id ≡ Some o → is_opaque o.kind ≡ true → slice_get heap id ≡ Some o
pushed_unseen heap x e id o there opaque = elim (get_pushed heap x id o there) [
  | inl old ↦ old
  | inr new ↦
      let at : made_as (heap ++ x ∷ []) (length heap) (Some x) ≡ None = ap (made_as (heap ++ x ∷ []) (length heap)) (sym (last_of_more heap x)) ∙ e in
      let unseen : is_shown (heap ++ x ∷ []) x ≡ false = shown_none _ _ at in
      let plain : is_opaque x.kind ≡ false = neither (is_opaque x.kind) (is_view (heap ++ x ∷ []) x) unseen in
      let no : true ≡ false = sym opaque ∙ ap (λ (y : Object). is_opaque y.kind) new.1 ∙ plain in
      absurd cc
]

-- one whose making is shown is opaque, or a view of one that is
pub pushed_shown : (heap : List Object) (x : Object) (r : Event) → made_event (heap ++ x ∷ []) (length heap) ≡ Some r → (is_opaque x.kind ≡ true) ⊎ (is_view (heap ++ x ∷ []) x ≡ true)
pushed_shown heap x r e =
    let at : made_as (heap ++ x ∷ []) (length heap) (Some x) ≡ Some r = ap (made_as (heap ++ x ∷ []) (length heap)) (sym (last_of_more heap x)) ∙ e in
    let shown = shown_some _ _ _ at in
    either (is_opaque x.kind) (is_view (heap ++ x ∷ []) x) shown.0

-- where no object was made there is no event
pub none_made : (heap : List Object) → made_event heap (length heap) ≡ None
none_made heap = ap (made_as heap (length heap)) (slice_get_past heap (length heap) (omega arith))

-- ---- changes

get_set : (heap : List Object) (j : ℕ) (y : Object) (id : ℕ) (o : Object) → slice_get (slice_set heap j y) id ≡ Some o → (slice_get heap id ≡ Some o) ⊎ ((id ≡ j) × (o ≡ y))
get_set [] j y id o e = inl e
get_set (x ∷ heap) zero y zero o e = inr (refl, cc)
get_set (x ∷ heap) zero y (suc id) o e = inl e
get_set (x ∷ heap) (suc j) y zero o e = inl e
get_set (x ∷ heap) (suc j) y (suc id) o e = elim (get_set heap j y id o e) [
  | inl same ↦ inl same
  | inr new ↦ inr (ap suc new.0, new.1)
]

get_here : (heap : List Object) (j : ℕ) (y o : Object) → slice_get heap j ≡ Some o → slice_get (slice_set heap j y) j ≡ Some y
get_here [] j y o e = absurd cc
get_here (x ∷ heap) zero y o e = refl
get_here (x ∷ heap) (suc j) y o e = get_here heap j y o e

-- an object after changes: as it was, or the one that got them
pub data AfterChanges (heap : List Object) (j : ℕ) (more : List Change) (id : ℕ) (o : Object) : Type 0 where
  Same : slice_get heap id ≡ Some o → AfterChanges heap j more id o
  Grown : (old : Object) → id ≡ j → slice_get heap j ≡ Some old → o ≡ record old { changes = old.changes ++ more } → AfterChanges heap j more id o

changed_by : (heap : List Object) (j : ℕ) (more : List Change) (g : Option Object) → slice_get heap j ≡ g → (id : ℕ) (o : Object) → slice_get (changed heap j more) id ≡ Some o
    → AfterChanges heap j more id o
changed_by heap j more None f id o e =
    let one : changed heap j more ≡ heap = ap (λ (g : Option Object). option_map_or (λ (x : Object). slice_set heap j (record x { changes = x.changes ++ more })) g heap) f in
    Same (ap (λ (h : List Object). slice_get h id) (sym one) ∙ e)
changed_by heap j more (Some old) f id o e =
    let y : Object = record old { changes = old.changes ++ more } in
    let one : changed heap j more ≡ slice_set heap j y = ap (λ (g : Option Object). option_map_or (λ (x : Object). slice_set heap j (record x { changes = x.changes ++ more })) g heap) f in
    let at : slice_get (slice_set heap j y) id ≡ Some o = ap (λ (h : List Object). slice_get h id) (sym one) ∙ e in
    elim (get_set heap j y id o at) [
      | inl same ↦ Same same
      | inr new ↦ Grown old new.0 f new.1
    ]

pub after_changes : (heap : List Object) (j : ℕ) (more : List Change) (id : ℕ) (o : Object) → slice_get (changed heap j more) id ≡ Some o → AfterChanges heap j more id o
after_changes heap j more id o e = changed_by heap j more (slice_get heap j) refl id o e

-- the object that got changes
changed_at : (heap : List Object) (j : ℕ) (more : List Change) (g : Option Object) → slice_get heap j ≡ g → (o : Object) → slice_get (changed heap j more) j ≡ Some o
    → (old : Object) × (slice_get heap j ≡ Some old) × (o ≡ record old { changes = old.changes ++ more })
changed_at heap j more None f o e =
    let one : changed heap j more ≡ heap = ap (λ (g : Option Object). option_map_or (λ (x : Object). slice_set heap j (record x { changes = x.changes ++ more })) g heap) f in
    let no : None ≡ Some o = sym f ∙ ap (λ (h : List Object). slice_get h j) (sym one) ∙ e in
    absurd cc
changed_at heap j more (Some old) f o e =
    let y : Object = record old { changes = old.changes ++ more } in
    let one : changed heap j more ≡ slice_set heap j y = ap (λ (g : Option Object). option_map_or (λ (x : Object). slice_set heap j (record x { changes = x.changes ++ more })) g heap) f in
    let at : slice_get (slice_set heap j y) j ≡ Some o = ap (λ (h : List Object). slice_get h j) (sym one) ∙ e in
    (old, f, some_same (slice_get (slice_set heap j y) j) o y at (get_here heap j y old f))

pub got_changes : (heap : List Object) (j : ℕ) (more : List Change) (o : Object) → slice_get (changed heap j more) j ≡ Some o
    → (old : Object) × (slice_get heap j ≡ Some old) × (o ≡ record old { changes = old.changes ++ more })
got_changes heap j more o e = changed_at heap j more (slice_get heap j) refl o e

-- ---- the top

-- the top of the stack is that of its top section, where there is one
pub top_is : (s : State) → 0 < length s.top → top_of s ≡ deep 0 s.top
top_is s h =
    let size : stack_size s ≡ length (objects_below s.marked) + length s.top = omega (arith, length-objects_below s.marked) in
    let within : length (objects_below s.marked) ≤ stack_size s - 1 = omega (arith, size, h) in
    let place : (stack_size s - 1) - length (objects_below s.marked) ≡ (length s.top - 1) - 0 = omega (arith, size, h) in
    ap (λ (g : Option ℕ). unwrap_or g 0) (get-behind (objects_below s.marked) s.top (stack_size s - 1) within ∙ ap (slice_get s.top) place)
    ∙ unwrap_or-slice_get s.top ((length s.top - 1) - 0) 0

-- ---- what was filled

pairs_short : (items : List ℕ) → length items / 2 ≡ 0 → pairs_of items ≡ []
pairs_short [] e = refl
pairs_short (k ∷ []) e = refl
pairs_short (k ∷ v ∷ rest) e = absurd (omega (arith, e))

-- no event: there were no changes, or they went into no opaque object
pub fills_unseen : (f : Filling) (items : List ℕ) (b : Before) (t : State) → taken_count b t ≡ length items → filled_event f b t ≡ None
    → (changes_of f items ≡ []) ⊎ (object_is is_opaque t.heap (top_of t) ≡ false)
fills_unseen filling.Append items b t n e = inr (neither (object_is is_opaque t.heap (top_of t)) (view_at t.heap (top_of t)) (shown_none _ _ e))
fills_unseen filling.SetItem items b t n e = elim (one_not _ _ (shown_none _ _ e)) [
  | inl none ↦ inl (pairs_short items (ap (filled_count filling.SetItem) (sym n) ∙ not_below (filled_count filling.SetItem (taken_count b t)) none))
  | inr plain ↦ inr plain
]
fills_unseen filling.Add items b t n e = inr (neither (object_is is_opaque t.heap (top_of t)) (view_at t.heap (top_of t)) (shown_none _ _ e))
fills_unseen filling.Build items b t n e = absurd cc

-- an object that is of such a kind is there
pub is_there : (test : Kind → Bool) (heap : List Object) (id : ℕ) → object_is test heap id ≡ true → (o : Object) × (slice_get heap id ≡ Some o) × (test o.kind ≡ true)
is_there test heap id e = go (slice_get heap id) refl
  where
    go : (g : Option Object) → slice_get heap id ≡ g → (o : Object) × (slice_get heap id ≡ Some o) × (test o.kind ≡ true)
    go None f = let no : false ≡ true = ap (λ (g : Option Object). option_map_or (λ (o : Object). test o.kind) g false) (sym f) ∙ e in absurd cc
    go (Some o) f = (o, f, ap (λ (g : Option Object). option_map_or (λ (o : Object). test o.kind) g false) (sym f) ∙ e)

pub not_there : (test : Kind → Bool) (heap : List Object) (id : ℕ) (o : Object) → slice_get heap id ≡ Some o → object_is test heap id ≡ false → test o.kind ≡ false
not_there test heap id o f e = ap (λ (g : Option Object). option_map_or (λ (o : Object). test o.kind) g false) (sym f) ∙ e
