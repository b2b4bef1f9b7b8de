-- What the methods come to that put objects into others.
use Rattle.std.proofs.Common.{◌≡◌, ◌≢◌, ℕ, zero, suc, ◌+◌, ◌-◌, ◌<◌, ◌≤◌, Bool, true, false, List, [], ◌∷◌, ◌++◌, length, map, take, drop, get_or, Option, Some, None, refl, sym, ap, subst, ◌∙◌, arith, length-append, take_all}
use Rattle.std.specs.Prelude.{slice_get, slice_set, nat_le, nat_lt, ◌&&◌, ◌||◌, ◌%◌, ◌==◌, if◌then◌else◌}
use Rattle.std.specs.Option.{option_map_or}
use Rattle.std.proofs.Math.Seq.{drop-append_seam}
use Rattle.std.proofs.lemmas.Bool.{lt-ltb, leb-true, le-leb}
use Rattle.std.proofs.lemmas.List.{length-map, append-nil, append_assoc, length-take-le, get_or-take, take-append-drop, length-drop}
use Rattle.pickle_ops.specs.declared.kind.Kind.{Kind}
use Rattle.pickle_ops.specs.declared.kind.Kind.TheVariants as kind
use Rattle.pickle_ops.specs.declared.class.Class.{Class}
use Rattle.pickle_ops.specs.declared.class.Class.TheVariants as class
use Rattle.pickle_ops.specs.declared.class.Demand.TheVariants as demand
use Rattle.pickle_ops.specs.declared.row.Row.TheVariants as row
use Rattle.pickle_ops.specs.declared.row.Filling.{Filling}
use Rattle.pickle_ops.specs.declared.row.Filling.TheVariants as filling
use Rattle.pickle_ops.specs.declared.object.Change.{Change}
use Rattle.pickle_ops.specs.Object.{Object}
use Rattle.pickle_ops.specs.Class.{is_any, class_meets}
use Rattle.pickle_ops.specs.Kind.{class_of, is_opaque, meets}
use Rattle.pickle_ops.specs.Row.{values_of}
use Rattle.pickle_machine.specs.declared.refusal.Refusal.{Refusal}
use Rattle.pickle_machine.specs.declared.refusal.Refusal.TheVariants as refusal
use Rattle.pickle_machine.specs.State.{Marked, State, stack_of, stack_size, objects_below}
use Rattle.pickle_machine.specs.Move.{deep, last_of, without, under, deeper, cut, change_top, changed, changes_of, object_meets, unless, if_deep, if_target, if_filled, if_paired}
use Rattle.pickle_machine.specs.Loader.{loose_at, views}
use Rattle.pickle_machine.proofs.Shown.{length-stack_of}
use Rattle.pickle_calls.specs.declared.event.Event.TheVariants as event
use Rattle.pickle_calls.specs.declared.event.Before.{Before}
use Rattle.pickle_calls.specs.Event.{top_of, before_of, object_is, taken_count, filled_count, touches, into, filled_event}
use Rattle.pickle_calls.proofs.Steps.{top_is, is_there, Same, Grown, after_changes}
use Rattle.pickle_loader.specs.Environment.{PyType, PyList, PyDict, PySet, PyByteArray, Value, Plain, Own, Foreign, Act, SetState, Fill, Method, Reply, Raises, Answers, Unpickler, World}
use Rattle.pickle_loader.specs.Unpickler.{Step, Ran, item, answered, tell, pop, on_top, pop_mark, put_in, fill_own, fill, fill_none, fills, fill_pairs, then_raises, load_append, load_appends, load_setitem, load_setitems, load_additems, load_build}
use Rattle.pickle_loader.specs.Listed.{listed_of, acts_listed, taken, objects_in}
use Rattle.pickle_loader.proofs.Images.{image, pop_image, on_top_image, mark_image, last_image}
use Rattle.pickle_loader.specs.Values.{origin, IsFrom, Knows}
use Rattle.pickle_loader.proofs.Pushes.{StandsAs, stands_as, knows_more, Good, listed_one}
use Rattle.pickle_loader.proofs.Methods.{Here, unpickler, fresh_acts, RowGood, passes, quiet, raised_good}

-- ---- objects that got changes

get_here : (heap : List Object) (j : ℕ) (y o : Object) → slice_get heap j ≡ Some o → slice_get (slice_set heap j y) j ≡ Some y
get_here [] j y o e = absurd cc
get_here (x ∷ heap) zero y o e = refl
get_here (x ∷ heap) (suc j) y o e = get_here heap j y o e

changed_get : (heap : List Object) (j : ℕ) (more : List Change) (o : Object) → slice_get heap j ≡ Some o → slice_get (changed heap j more) j ≡ Some (record o { changes = o.changes ++ more })
changed_get heap j more o e =
    ap (λ (g : Option Object). slice_get (option_map_or (λ (x : Object). slice_set heap j (record x { changes = x.changes ++ more })) g heap) j) e
    ∙ get_here heap j (record o { changes = o.changes ++ more }) o e

knows_changed : (w : World) (V : ℕ → Value) (acts : List Act) (heap : List Object) (j : ℕ) (more : List Change) → Knows w V acts heap → Knows w V acts (changed heap j more)
knows_changed w V acts heap j more knows id o e = elim (after_changes heap j more id o e) [
  | Same is ↦ knows id o is
  | Grown old at was is ↦ subst (λ (y : Object). IsFrom w acts y.kind (V id) (origin y.kind (map V y.parts))) (sym is) (knows id old (ap (slice_get heap) at ∙ was))
]

-- ---- what is listed

into_listed : (V : ℕ → Value) (proto : ℕ) (s t : State) (f : Filling) (n : ℕ) (b : Bool)
    → acts_listed V proto s t (if b then Some (event.Filled f n (top_of t)) else None) ≡ (if nat_lt 0 n && b then Fill f (V (top_of t)) (map V (take (objects_in f n) (taken s t))) ∷ [] else [])
into_listed V proto s t f n true = go (nat_lt 0 n) _
  where
    go : (c : Bool) (acts : List Act) → (if c then acts else []) ≡ (if c && true then acts else [])
    go true acts = refl
    go false acts = refl
into_listed V proto s t f n false = go (nat_lt 0 n) _
  where
    go : (c : Bool) (acts : List Act) → [] ≡ (if c && false then acts else [])
    go true acts = refl
    go false acts = refl

-- what may be filled is no view
no_view : (f : Filling) (k : Kind) (heap : List Object) (parts : List ℕ) → f ≢ filling.Build → class_meets (demand.Target f) (class_of k) ≡ true → views heap k parts ≡ false
no_view filling.Append kind.ReadOnly heap parts ne e = absurd cc
no_view filling.Add kind.ReadOnly heap parts ne e = absurd cc
no_view filling.SetItem kind.ReadOnly heap parts ne e = absurd cc
no_view filling.Build kind.ReadOnly heap parts ne e = absurd (ne refl)
no_view f _ heap parts ne e = refl

or_none : (b : Bool) → (b || false) ≡ b
or_none true = refl
or_none false = refl

-- what something goes into is touched where it is opaque
touched : (f : Filling) (n : ℕ) (heap : List Object) (id : ℕ) (o : Object) → f ≢ filling.Build → 0 < n → slice_get heap id ≡ Some o → class_meets (demand.Target f) (class_of o.kind) ≡ true
    → touches f n heap id ≡ object_is is_opaque heap id
touched f n heap id o ne some there fine = go f (no_view f o.kind heap o.parts ne fine)
  where
    opaque : Bool
    opaque = object_is is_opaque heap id

    loose : views heap o.kind o.parts ≡ false → loose_at heap id ≡ opaque
    loose none =
        ap (λ (g : Option Object). option_map_or (λ (x : Object). is_opaque x.kind) g false || option_map_or (λ (x : Object). views heap x.kind x.parts) g false) there
        ∙ ap (λ (b : Bool). is_opaque o.kind || b) none
        ∙ or_none (is_opaque o.kind)
        ∙ sym (ap (λ (g : Option Object). option_map_or (λ (x : Object). is_opaque x.kind) g false) there)

    go : (g : Filling) → views heap o.kind o.parts ≡ false → touches g n heap id ≡ opaque
    go filling.Append none = loose none
    go filling.Add none = loose none
    go filling.SetItem none = ap (λ (b : Bool). b && opaque) (lt-ltb 0 n some)
    go filling.Build none = ap (λ (b : Bool). b && opaque) (lt-ltb 0 n some)

-- the stack before is that behind and what was taken
abbrev pub Splits : State → State → List ℕ → Type 0
Splits s u items = stack_of s ≡ stack_of u ++ items

pub taken_is : (s u : State) (items : List ℕ) → Splits s u items → drop (stack_size u) (stack_of s) ≡ items
taken_is s u items e = ap (drop (stack_size u)) e ∙ ap (λ (n : ℕ). drop n (stack_of u ++ items)) (sym (length-stack_of u)) ∙ drop-append_seam (stack_of u) items

count_is : (s u : State) (items : List ℕ) → Splits s u items → stack_size s - stack_size u ≡ length items
count_is s u items e = omega (arith, ap length e, length-append (stack_of u) items, length-stack_of s, length-stack_of u)

-- what a filling tells of a target
abbrev pub listed_into : Bool → Filling → Value → List Value → List Act
listed_into true f v vs = Fill f v vs ∷ []
listed_into false f v vs = []

-- no state is set
abbrev pub IsFill : Filling → Type 0
IsFill f = (b : Before) (t : State) → filled_event f b t ≡ into f (filled_count f (taken_count b t)) t

pub filled_listed : (h : Here) (f : Filling) (u : State) (items : List ℕ) (more : List Change) → IsFill f → Splits h.s u items → (n : ℕ) → filled_count f (length items) ≡ n → length items ≤ objects_in f n
    → (nat_lt 0 n && touches f n (change_top more u).heap (top_of u)) ≡ (nat_lt 0 n && object_is is_opaque (change_top more u).heap (top_of u))
    → acts_listed h.V h.proto h.s (change_top more u) (filled_event f (before_of h.s) (change_top more u))
    ≡ (if nat_lt 0 n && object_is is_opaque (change_top more u).heap (top_of u) then Fill f (h.V (top_of u)) (map h.V items) ∷ [] else [])
filled_listed h f u items more fe split n same whole agrees =
    let t : State = change_top more u in
    let count : filled_count f (taken_count (before_of h.s) t) ≡ n = ap (filled_count f) (count_is h.s u items split) ∙ same in
    ap (acts_listed h.V h.proto h.s t) (fe (before_of h.s) t)
    ∙ ap (λ (m : ℕ). acts_listed h.V h.proto h.s t (into f m t)) count
    ∙ into_listed h.V h.proto h.s t f n (touches f n t.heap (top_of t))
    ∙ ap (λ (b : Bool). if b then Fill f (h.V (top_of t)) (map h.V (take (objects_in f n) (taken h.s t))) ∷ [] else []) agrees
    ∙ ap (λ (l : List ℕ). if nat_lt 0 n && object_is is_opaque t.heap (top_of t) then Fill f (h.V (top_of t)) (map h.V l) ∷ [] else []) (ap (take (objects_in f n)) (taken_is h.s u items split) ∙ take_all (objects_in f n) items whole)

-- ---- what is put in

Filled : Here → State → List Change → List Act → Step → Type 0
Filled h u more new x = Good h.V h.w h.s.heap h.acts (change_top more u) new h.proto x

knows_after : (h : Here) (u : State) (more : List Change) (acts : List Act) → u.heap ≡ h.s.heap → Knows h.w h.V (h.acts ++ acts) (change_top more u).heap
knows_after h u more acts e =
    knows_more h.w h.V h.acts acts (change_top more u).heap (knows_changed h.w h.V h.acts u.heap (deep 0 u.top) more (subst (λ (l : List Object). Knows h.w h.V h.acts l) (sym e) h.knows))

-- the same with no act
knows_at_once : (h : Here) (u : State) (more : List Change) → u.heap ≡ h.s.heap → Knows h.w h.V h.acts (change_top more u).heap
knows_at_once h u more e = knows_changed h.w h.V h.acts u.heap (deep 0 u.top) more (subst (λ (l : List Object). Knows h.w h.V h.acts l) (sym e) h.knows)

-- into a value of the unpickler's own
put_good : (h : Here) (u : State) (more : List Change) (new : List Act) (f : Filling) (t : PyType) (n : ℕ) (vs : List Value) (acts : List Act) (done : List Act) → u.heap ≡ h.s.heap → new ≡ [] → acts ≡ h.acts ++ done → listed_of acts ≡ listed_of h.acts
    → Filled h u more new (put_in f (Own t n) vs (image h.V u h.proto acts))
unfolding Filled
put_good h u more new f t n vs acts done e none is same foretold = (
  refl,
  knows_more h.w h.V acts (Fill f (Own t n) vs ∷ []) (change_top more u).heap (subst (λ (l : List Act). Knows h.w h.V l (change_top more u).heap) (sym is) (knows_after h u more done e)),
  quiet acts (Fill f (Own t n) vs) refl ∙ same ∙ sym (append-nil (listed_of h.acts)) ∙ ap (λ (l : List Act). listed_of h.acts ++ l) (sym none),
)

put_by_good : (h : Here) (r : Reply) (u : State) (more : List Change) (new : List Act) (f : Filling) (t : PyType) (n : ℕ) (vs : List Value) → u.heap ≡ h.s.heap → new ≡ []
    → Filled h u more new (answered r Method (image h.V u h.proto h.acts) (λ v q. put_in f (Own t n) vs q))
unfolding Filled
put_by_good h Raises u more new f t n vs e none = raised_good h.V h.w h.s.heap h.acts (change_top more u) new h.proto (h.acts ++ Method ∷ []) (quiet h.acts Method refl)
put_by_good h (Answers x) u more new f t n vs e none = put_good h u more new f t n vs (h.acts ++ Method ∷ []) (Method ∷ []) e none refl (quiet h.acts Method refl)

-- into a value from elsewhere
tell_good : (h : Here) (r : Reply) (u : State) (more : List Change) (new : List Act) (a : Act) → u.heap ≡ h.s.heap → listed_of (a ∷ []) ≡ new
    → Filled h u more new (answered r a (image h.V u h.proto h.acts) (λ v q. Ran q))
unfolding Filled
tell_good h Raises u more new a e is = ([], append-nil (listed_of (h.acts ++ a ∷ [])) ∙ listed_one h.acts a ∙ ap (λ (l : List Act). listed_of h.acts ++ l) is)
tell_good h (Answers x) u more new a e is = λ foretold. (refl, knows_after h u more (a ∷ []) e, listed_one h.acts a ∙ ap (λ (l : List Act). listed_of h.acts ++ l) is)

FillGood : Here → State → List Change → List Act → Filling → List Value → Value → Type 0
FillGood h u more new f vs v = Filled h u more new (fill h.w f v vs (image h.V u h.proto h.acts))

own_good : (h : Here) (u : State) (more : List Change) (new : List Act) (f : Filling) (t : PyType) (n : ℕ) (vs : List Value) (v : Value) → v ≡ Own t n
    → Filled h u more new (fill_own h.w f t (Own t n) vs (image h.V u h.proto h.acts)) → FillGood h u more new f vs v
unfolding FillGood
own_good h u more new f t n vs v e g = subst (λ (y : Value). Filled h u more new (fill h.w f y vs (image h.V u h.proto h.acts))) (sym e) g

by_class : (h : Here) (u : State) (more : List Change) (new : List Act) (f : Filling) (vs : List Value) (v : Value) (c : Class) → u.heap ≡ h.s.heap → f ≢ filling.Build
    → class_meets (demand.Target f) c ≡ true → StandsAs h.w h.acts c v → new ≡ listed_into (is_any c) f v vs → FillGood h u more new f vs v
unfolding FillGood
by_class h u more new f vs v class.Opaque e ne m (t, n, is) new_is =
    subst (λ (y : Value). Filled h u more new (fill h.w f y vs (image h.V u h.proto h.acts))) (sym is)
    (tell_good h (h.w.reply h.acts (Fill f (Foreign t n) vs)) u more new (Fill f (Foreign t n) vs) e (ap (λ (y : Value). Fill f y vs ∷ []) (sym is) ∙ sym new_is))
by_class h u more new filling.Append vs v class.List e ne m (n, is) none = own_good h u more new filling.Append PyList n vs v is (put_good h u more new filling.Append PyList n vs h.acts [] e none (sym (append-nil h.acts)) refl)
by_class h u more new filling.Append vs v class.ByteArray e ne m (n, is) none = own_good h u more new filling.Append PyByteArray n vs v is (put_by_good h (h.w.reply h.acts Method) u more new filling.Append PyByteArray n vs e none)
by_class h u more new filling.SetItem vs v class.Dict e ne m (n, is) none = own_good h u more new filling.SetItem PyDict n vs v is (put_by_good h (h.w.reply h.acts Method) u more new filling.SetItem PyDict n vs e none)
by_class h u more new filling.SetItem vs v class.List e ne m (n, is) none = own_good h u more new filling.SetItem PyList n vs v is (put_by_good h (h.w.reply h.acts Method) u more new filling.SetItem PyList n vs e none)
by_class h u more new filling.SetItem vs v class.ByteArray e ne m (n, is) none = own_good h u more new filling.SetItem PyByteArray n vs v is (put_by_good h (h.w.reply h.acts Method) u more new filling.SetItem PyByteArray n vs e none)
by_class h u more new filling.Add vs v class.Set e ne m (n, is) none = own_good h u more new filling.Add PySet n vs v is (put_by_good h (h.w.reply h.acts Method) u more new filling.Add PySet n vs e none)
by_class h u more new filling.Build vs v c e ne m s new_is = absurd (ne refl)
by_class h u more new filling.Append vs v _ e ne m s new_is = absurd cc
by_class h u more new filling.SetItem vs v _ e ne m s new_is = absurd cc
by_class h u more new filling.Add vs v _ e ne m s new_is = absurd cc

-- with nothing to put in
none_good : (h : Here) (u : State) (more : List Change) (new : List Act) (v : Value) → u.heap ≡ h.s.heap → new ≡ [] → Filled h u more new (fill_none h.w v (image h.V u h.proto h.acts))
unfolding Filled
none_good h u more new (Foreign t n) e none = looked_up h.w.looks_up_for_nothing
  where
    looked_up : (b : Bool) → Filled h u more new (if b then tell h.w Method (image h.V u h.proto h.acts) else Ran (image h.V u h.proto h.acts))
    looked_up true = tell_good h (h.w.reply h.acts Method) u more new Method e (sym none)
    looked_up false = λ foretold. (refl, knows_at_once h u more e, sym (append-nil (listed_of h.acts)) ∙ ap (λ (l : List Act). listed_of h.acts ++ l) (sym none))
none_good h u more new (Own t n) e none = λ foretold. (refl, knows_at_once h u more e, sym (append-nil (listed_of h.acts)) ∙ ap (λ (l : List Act). listed_of h.acts ++ l) (sym none))
none_good h u more new (Plain k) e none = λ foretold. (refl, knows_at_once h u more e, sym (append-nil (listed_of h.acts)) ∙ ap (λ (l : List Act). listed_of h.acts ++ l) (sym none))

-- an object is known by its class
listed_by_class : (h : Here) (f : Filling) (u : State) (items : List ℕ) (more : List Change) (o : Object) (n : ℕ) → IsFill f → Splits h.s u items → u.heap ≡ h.s.heap → 0 < length u.top
    → filled_count f (length items) ≡ n → length items ≤ objects_in f n → 0 < n → slice_get u.heap (deep 0 u.top) ≡ Some o → f ≢ filling.Build → class_meets (demand.Target f) (class_of o.kind) ≡ true
    → acts_listed h.V h.proto h.s (change_top more u) (filled_event f (before_of h.s) (change_top more u)) ≡ listed_into (is_any (class_of o.kind)) f (h.V (deep 0 u.top)) (map h.V items)
listed_by_class h f u items more o n fe split same top count whole some there ne fine =
    let t : State = change_top more u in
    let target : top_of u ≡ deep 0 u.top = top_is u top in
    let here : slice_get t.heap (top_of u) ≡ Some (record o { changes = o.changes ++ more }) = ap (slice_get t.heap) target ∙ changed_get u.heap (deep 0 u.top) more o there in
    let opaque : object_is is_opaque t.heap (top_of u) ≡ is_any (class_of o.kind) = ap (λ (g : Option Object). option_map_or (λ (x : Object). is_opaque x.kind) g false) here in
    filled_listed h f u items more fe split n count whole (ap (λ (b : Bool). nat_lt 0 n && b) (touched f n t.heap (top_of u) (record o { changes = o.changes ++ more }) ne some here fine))
    ∙ ap (λ (b : Bool). if b && object_is is_opaque t.heap (top_of u) then Fill f (h.V (top_of u)) (map h.V items) ∷ [] else []) (lt-ltb 0 n some)
    ∙ ap (λ (b : Bool). if b then Fill f (h.V (top_of u)) (map h.V items) ∷ [] else []) opaque
    ∙ ap (λ (i : ℕ). if is_any (class_of o.kind) then Fill f (h.V i) (map h.V items) ∷ [] else []) target
    ∙ go (is_any (class_of o.kind))
  where
    go : (b : Bool) → (if b then Fill f (h.V (deep 0 u.top)) (map h.V items) ∷ [] else []) ≡ listed_into b f (h.V (deep 0 u.top)) (map h.V items)
    go true = refl
    go false = refl

listed_empty : (h : Here) (f : Filling) (u : State) (more : List Change) → IsFill f → Splits h.s u [] → filled_count f 0 ≡ 0
    → acts_listed h.V h.proto h.s (change_top more u) (filled_event f (before_of h.s) (change_top more u)) ≡ []
listed_empty h f u more fe split count = filled_listed h f u [] more fe split 0 count (omega arith) refl

-- what is needed to fill
record CanFill (h : Here) (f : Filling) (u : State) (items : List ℕ) : Type 0 where
  fe : IsFill f
  ne : f ≢ filling.Build
  same : u.heap ≡ h.s.heap
  top : 0 < length u.top
  split : Splits h.s u items
  zero_count : filled_count f 0 ≡ 0
  count : 0 < length items → 0 < filled_count f (length items)
  whole : 0 < length items → length items ≤ objects_in f (filled_count f (length items))
  target : 0 < length items → object_meets (demand.Target f) h.s (deep 0 u.top) ≡ true

fills_good : (h : Here) (f : Filling) (u : State) (items : List ℕ) (more : List Change) → CanFill h f u items
    → Filled h u more (acts_listed h.V h.proto h.s (change_top more u) (filled_event f (before_of h.s) (change_top more u))) (fills h.w f (h.V (deep 0 u.top)) (map h.V items) (image h.V u h.proto h.acts))
unfolding FillGood
fills_good h f u [] more c = none_good h u more _ (h.V (deep 0 u.top)) c.same (listed_empty h f u more c.fe c.split c.zero_count)
fills_good h f u (x ∷ xs) more c =
    let o = is_there (meets (demand.Target f)) h.s.heap (deep 0 u.top) (c.target (omega arith)) in
    let there : slice_get u.heap (deep 0 u.top) ≡ Some o.0 = ap (λ (l : List Object). slice_get l (deep 0 u.top)) c.same ∙ o.1 in
    by_class h u more _ f (map h.V (x ∷ xs)) (h.V (deep 0 u.top)) (class_of o.0.kind) c.same c.ne o.2 (stands_as h.w h.acts o.0.kind (map h.V o.0.parts) (h.V (deep 0 u.top)) (h.knows (deep 0 u.top) o.0 o.1))
    (listed_by_class h f u (x ∷ xs) more o.0 (filled_count f (length (x ∷ xs))) c.fe c.split c.same c.top refl (c.whole (omega arith)) (c.count (omega arith)) there c.ne o.2)

-- ---- rows that take objects from the top

pub deep_without : (n : ℕ) (xs : List ℕ) → n < length xs → deep 0 (take (length xs - n) xs) ≡ deep n xs
deep_without n xs h =
    let size : length (take (length xs - n) xs) ≡ length xs - n = length-take-le (length xs - n) xs (omega arith) in
    ap (λ (m : ℕ). get_or (take (length xs - n) xs) (m - 1 - 0) 0) size
    ∙ get_or-take (length xs - n) xs ((length xs - n) - 1 - 0) 0 (omega (arith, h))
    ∙ ap (λ (i : ℕ). get_or xs i 0) (omega (arith, h))

pub split_without : (n : ℕ) (s : State) → Splits s (without n s) (last_of n s)
split_without n s =
    ap (λ (l : List ℕ). objects_below s.marked ++ l) (sym (take-append-drop (length s.top - n) s.top)) ∙ sym (append_assoc (objects_below s.marked) (take (length s.top - n) s.top) (drop (length s.top - n) s.top))

enough : (h : Here) (f : Filling) → nat_le (values_of f + 1) (length h.s.top) ≡ true → values_of f < length h.s.top
enough h f e = omega (arith, leb-true _ _ e)

change_good : (h : Here) (f : Filling) (k : Kind) → IsFill f → f ≢ filling.Build → filled_count f 0 ≡ 0 → (0 < filled_count f (values_of f)) → values_of f ≤ objects_in f (filled_count f (values_of f)) → 0 < values_of f
    → RowGood h (row.Change f) k h.proto (pop (values_of f) (unpickler h) (λ vs q. on_top q (λ target. fills h.w f target vs q)))
unfolding Filled
change_good h f k fe ne zero_count some whole values e =
    let n : ℕ = values_of f in
    let u : State = without n h.s in
    let items : List ℕ = last_of n h.s in
    let more : List Change = changes_of f items in
    let new : List Act = fresh_acts h (row.Change f) (change_top more u) in
    let fine = passes (nat_le (n + 1) (length h.s.top)) refusal.Underflow (if_target f h.s (deep n h.s.top)) e in
    let below : n < length h.s.top = enough h f fine.0 in
    let meets : object_meets (demand.Target f) h.s (deep n h.s.top) ≡ true = (passes (object_meets (demand.Target f) h.s (deep n h.s.top)) (refusal.WrongKind (deep n h.s.top)) None fine.1).0 in
    let size : length u.top ≡ length h.s.top - n = length-take-le (length h.s.top - n) h.s.top (omega arith) in
    let count : length items ≡ n = omega (arith, length-drop (length h.s.top - n) h.s.top, below) in
    let can : CanFill h f u items = record {
      fe = fe;
      ne = ne;
      same = refl;
      top = omega (arith, size, below);
      split = split_without n h.s;
      zero_count = zero_count;
      count = λ _. subst (λ (m : ℕ). 0 < filled_count f m) (sym count) some;
      whole = λ _. subst (λ (m : ℕ). m ≤ objects_in f (filled_count f m)) (sym count) whole;
      target = λ _. ap (object_meets (demand.Target f) h.s) (deep_without n h.s.top below) ∙ meets;
    } in
    subst (λ (x : Step). Good h.V h.w h.s.heap h.acts (change_top more u) new h.proto x) (sym (pop_image h.V h.s h.proto h.acts n (λ vs q. on_top q (λ target. fills h.w f target vs q)) (le-leb n (length h.s.top) (omega (arith, below)))))
    (subst (λ (x : Step). Good h.V h.w h.s.heap h.acts (change_top more u) new h.proto x) (sym (on_top_image h.V u h.proto h.acts (λ target. fills h.w f target (map h.V items) (image h.V u h.proto h.acts)) (le-leb 1 (length u.top) (omega (arith, size, below)))))
    (fills_good h f u items more can))

pub append_good : (h : Here) (k : Kind) → RowGood h (row.Change filling.Append) k h.proto (load_append h.w (unpickler h))
append_good h k = change_good h filling.Append k (λ b t. refl) (λ e. absurd cc) refl (omega arith) (omega arith) (omega arith)

pub setitem_good : (h : Here) (k : Kind) → RowGood h (row.Change filling.SetItem) k h.proto (load_setitem h.w (unpickler h))
setitem_good h k = change_good h filling.SetItem k (λ b t. refl) (λ e. absurd cc) (omega arith) (omega arith) (omega arith) (omega arith)

-- ---- rows that take what is above the mark

split_marks : (top : List ℕ) (ms : List Marked) → nat_lt 0 (length ms) ≡ true → objects_below ms ++ top ≡ (objects_below (deeper ms) ++ under ms) ++ top
split_marks top [] h = absurd cc
split_marks top (m ∷ ms) h = refl

pub split_cut : (s : State) → nat_lt 0 (length s.marked) ≡ true → Splits s (cut s) s.top
split_cut s h = split_marks s.top s.marked h

-- the target is looked at where something goes in
filled_target : (f : Filling) (items : List ℕ) (s : State) (id : ℕ) → if_filled f items s id ≡ None → 0 < length items → object_meets (demand.Target f) s id ≡ true
filled_target f items s id e h =
    (passes (object_meets (demand.Target f) s id) (refusal.WrongKind id) None (ap (λ (b : Bool). if b then if_target f s id else None) (sym (lt-ltb 0 (length items) h)) ∙ e)).0

cut_fill_good : (h : Here) (f : Filling) (k : Kind) (go : List Value → Value → Unpickler → Step) → IsFill f → f ≢ filling.Build → filled_count f 0 ≡ 0
    → (if_paired f h.s.top None ≡ None → (0 < length h.s.top → 0 < filled_count f (length h.s.top)) × (length h.s.top ≤ objects_in f (filled_count f (length h.s.top))) × ((v : Value) (q : Unpickler) → go (map h.V h.s.top) v q ≡ fills h.w f v (map h.V h.s.top) q))
    → ((rest : Option Refusal) → if_paired f h.s.top rest ≡ None → (if_paired f h.s.top None ≡ None) × (rest ≡ None))
    → RowGood h (row.CutChange f) k h.proto (pop_mark (unpickler h) (λ items q. on_top q (λ target. go items target q)))
unfolding Filled
cut_fill_good h f k go fe ne zero_count right paired e =
    let u : State = cut h.s in
    let more : List Change = changes_of f h.s.top in
    let new : List Act = fresh_acts h (row.CutChange f) (change_top more u) in
    let marked = passes (nat_lt 0 (length h.s.marked)) refusal.NoMark (if_deep 1 (under h.s.marked) (if_paired f h.s.top (if_filled f h.s.top h.s (deep 0 (under h.s.marked))))) e in
    let there = passes (nat_le 1 (length (under h.s.marked))) refusal.Underflow (if_paired f h.s.top (if_filled f h.s.top h.s (deep 0 (under h.s.marked)))) marked.1 in
    let pairs = paired (if_filled f h.s.top h.s (deep 0 (under h.s.marked))) there.1 in
    let fine = right pairs.0 in
    let can : CanFill h f u h.s.top = record {
      fe = fe;
      ne = ne;
      same = refl;
      top = omega (arith, leb-true 1 (length (under h.s.marked)) there.0);
      split = split_cut h.s marked.0;
      zero_count = zero_count;
      count = fine.0;
      whole = λ _. fine.1;
      target = λ some. filled_target f h.s.top h.s (deep 0 (under h.s.marked)) pairs.1 some;
    } in
    subst (λ (x : Step). Good h.V h.w h.s.heap h.acts (change_top more u) new h.proto x) (sym (mark_image h.V h.s h.proto h.acts (λ items q. on_top q (λ target. go items target q)) marked.0))
    (subst (λ (x : Step). Good h.V h.w h.s.heap h.acts (change_top more u) new h.proto x) (sym (on_top_image h.V u h.proto h.acts (λ target. go (map h.V h.s.top) target (image h.V u h.proto h.acts)) there.0))
    (subst (λ (x : Step). Good h.V h.w h.s.heap h.acts (change_top more u) new h.proto x) (sym (fine.2 (h.V (deep 0 u.top)) (image h.V u h.proto h.acts)))
    (fills_good h f u h.s.top more can)))

pub appends_good : (h : Here) (k : Kind) → RowGood h (row.CutChange filling.Append) k h.proto (load_appends h.w (unpickler h))
appends_good h k = cut_fill_good h filling.Append k (λ items target q. fills h.w filling.Append target items q) (λ b t. refl) (λ e. absurd cc) refl (λ _. (λ some. some, omega arith, λ v q. refl)) (λ rest e. (refl, e))

pub additems_good : (h : Here) (k : Kind) → RowGood h (row.CutChange filling.Add) k h.proto (load_additems h.w (unpickler h))
additems_good h k = cut_fill_good h filling.Add k (λ items target q. fills h.w filling.Add target items q) (λ b t. refl) (λ e. absurd cc) refl (λ _. (λ some. some, omega arith, λ v q. refl)) (λ rest e. (refl, e))

pub is_even : (n : ℕ) → (n % 2 == 0) ≡ true → n % 2 ≡ 0
is_even n e = grind arith

pub setitems_good : (h : Here) (k : Kind) → RowGood h (row.CutChange filling.SetItem) k h.proto (load_setitems h.w (unpickler h))
setitems_good h k =
    cut_fill_good h filling.SetItem k (λ items target q. fill_pairs h.w target items q) (λ b t. refl) (λ e. absurd cc) (omega arith)
    (λ e.
    let even : (length h.s.top % 2 == 0) ≡ true = (passes (length h.s.top % 2 == 0) refusal.OddItems None e).0 in
    let none : length h.s.top % 2 ≡ 0 = is_even (length h.s.top) even in (
      λ some. omega (arith, none, some),
      omega (arith, none),
      λ v q.
          ap (λ (n : ℕ). if n % 2 == 0 then fills h.w filling.SetItem v (map h.V h.s.top) q else then_raises (fills h.w filling.SetItem v (take (length (map h.V h.s.top) - 1) (map h.V h.s.top)) q)) (length-map h.s.top h.V)
          ∙ ap (λ (b : Bool). if b then fills h.w filling.SetItem v (map h.V h.s.top) q else then_raises (fills h.w filling.SetItem v (take (length (map h.V h.s.top) - 1) (map h.V h.s.top)) q)) even,
    ))
    (λ rest e. let p = passes (length h.s.top % 2 == 0) refusal.OddItems rest e in (ap (λ (b : Bool). unless b refusal.OddItems None) p.0, p.1))

-- ---- BUILD

pub build_good : (h : Here) (k : Kind) → RowGood h (row.Change filling.Build) k h.proto (load_build h.w (unpickler h))
unfolding Filled
build_good h k e =
    let u : State = without 1 h.s in
    let items : List ℕ = last_of 1 h.s in
    let more : List Change = changes_of filling.Build items in
    let new : List Act = fresh_acts h (row.Change filling.Build) (change_top more u) in
    let fine = passes (nat_le 2 (length h.s.top)) refusal.Underflow (if_target filling.Build h.s (deep 1 h.s.top)) e in
    let below : 1 < length h.s.top = omega (arith, leb-true 2 (length h.s.top) fine.0) in
    let size : length u.top ≡ length h.s.top - 1 = length-take-le (length h.s.top - 1) h.s.top (omega arith) in
    let value : item 0 (map h.V items) ≡ h.V (top_of h.s) = last_image h.V h.s (omega (arith, below)) ∙ ap h.V (sym (top_is h.s (omega (arith, below)))) in
    let target : h.V (deep 0 u.top) ≡ h.V (top_of u) = ap h.V (sym (top_is u (omega (arith, size, below)))) in
    let listed : SetState (h.V (deep 0 u.top)) (item 0 (map h.V items)) ∷ [] ≡ new = ap (λ (v : Value). SetState (h.V (deep 0 u.top)) v ∷ []) value ∙ ap (λ (v : Value). SetState v (h.V (top_of h.s)) ∷ []) target in
    subst (λ (x : Step). Good h.V h.w h.s.heap h.acts (change_top more u) new h.proto x) (sym (pop_image h.V h.s h.proto h.acts 1 (λ vs q. on_top q (λ target. tell h.w (SetState target (item 0 vs)) q)) (le-leb 1 (length h.s.top) (omega (arith, below)))))
    (subst (λ (x : Step). Good h.V h.w h.s.heap h.acts (change_top more u) new h.proto x) (sym (on_top_image h.V u h.proto h.acts (λ target. tell h.w (SetState target (item 0 (map h.V items))) (image h.V u h.proto h.acts)) (le-leb 1 (length u.top) (omega (arith, size, below)))))
    (tell_good h (h.w.reply h.acts (SetState (h.V (deep 0 u.top)) (item 0 (map h.V items)))) u more new (SetState (h.V (deep 0 u.top)) (item 0 (map h.V items))) refl listed))
