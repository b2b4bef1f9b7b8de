-- What the values of objects are, which the unpickler can do nothing with.
use Rattle.std.proofs.Common.{◌≡◌, ℕ, zero, suc, ◌<◌, Bool, true, false, List, [], ◌∷◌, length, map, Option, None, Some, refl, sym, ap, ◌∙◌, inl, inr, arith}
use Rattle.std.specs.Prelude.{slice_get, ◌||◌}
use Rattle.std.specs.Option.{option_map_or}
use Rattle.pickle_ops.specs.declared.kind.Kind.{Kind}
use Rattle.pickle_ops.specs.declared.kind.Kind.TheVariants as kind
use Rattle.pickle_ops.specs.declared.class.Class.{Class}
use Rattle.pickle_ops.specs.declared.class.Class.TheVariants as class
use Rattle.pickle_ops.specs.declared.class.Demand.TheVariants as demand
use Rattle.pickle_ops.specs.declared.row.Filling.{Filling}
use Rattle.pickle_ops.specs.declared.row.Filling.TheVariants as filling
use Rattle.pickle_ops.specs.Object.{Object}
use Rattle.pickle_ops.specs.Class.{class_meets, is_any}
use Rattle.pickle_ops.specs.Kind.{class_of, is_opaque, meets}
use Rattle.pickle_machine.specs.Move.{object_meets}
use Rattle.pickle_machine.specs.Loader.{opaque_at, views, view_at, loose_at, keyed_at, iterates as can_iterate, iterates_at, is_string, string_at}
use Rattle.pickle_calls.proofs.Steps.{not_there}
use Rattle.pickle_loader.specs.Environment.{PyType, PyStr, PyTuple, PyList, PyDict, PySet, PyFrozenSet, PyByteArray, PyMemoryView, Value, Plain, Own, Foreign, is_elsewhere, Act, Unpickler, World}
use Rattle.pickle_loader.specs.Unpickler.{Raised, item, iterates, has_keys, has_memory, is_str, viewed, fill, fill_own}
use Rattle.pickle_loader.specs.Values.{origin, IsFrom}
use Rattle.pickle_loader.specs.Whole.{IsSeen, IsWhole}
use Rattle.pickle_loader.proofs.Cuts.{no_two}
use Rattle.pickle_loader.proofs.Pushes.{StandsAs, stands_as}
use Rattle.pickle_loader.proofs.Methods.{Here}

-- ---- objects that are there

pub object_at : (heap : List Object) (id : ℕ) → id < length heap → (o : Object) × (slice_get heap id ≡ Some o)
object_at [] id h = absurd (omega (arith, h))
object_at (o ∷ heap) zero h = (o, refl)
object_at (o ∷ heap) (suc id) h = object_at heap id (omega (arith, h))

pub both_ways : (b : Bool) → (b ≡ true → b ≡ false) → b ≡ false
both_ways true h = h refl
both_ways false h = refl

-- ---- values from elsewhere

-- what can be written and is from elsewhere is opaque
writable_elsewhere : (w : World) (acts : List Act) (c : Class) (v : Value) → class_meets demand.Writable c ≡ true → StandsAs w acts c v → is_elsewhere v ≡ true → is_any c ≡ true
writable_elsewhere w acts class.Opaque v m stands e = refl
writable_elsewhere w acts class.ByteArray v m (n, is) e = absurd (no_two (is_elsewhere v) e (ap is_elsewhere is))
writable_elsewhere w acts _ v m stands e = absurd cc

first_part : (V : ℕ → Value) (parts : List ℕ) (p : ℕ) → slice_get parts 0 ≡ Some p → item 0 (map V parts) ≡ V p
first_part V [] p e = absurd cc
first_part V (x ∷ parts) p e = let same : x ≡ p = cc in ap V same

no_own : {A : Type 0} (t : PyType) (n : ℕ) (v : Value) → v ≡ Own t n → is_elsewhere v ≡ true → A
no_own t n v is e = absurd (no_two (is_elsewhere v) e (ap is_elsewhere is))

no_plain : {A : Type 0} (k : Kind) (v : Value) → v ≡ Plain k → is_elsewhere v ≡ true → A
no_plain k v is e = absurd (no_two (is_elsewhere v) e (ap is_elsewhere is))

-- a view of what comes from elsewhere
view_elsewhere : (h : Here) (parts : List ℕ) (t : PyType) (n : ℕ) → item 0 (map h.V parts) ≡ Foreign t n → IsSeen h.s.heap kind.ReadOnly parts → views h.s.heap kind.ReadOnly parts ≡ true
view_elsewhere h parts t n is (p, x, at, there, can) =
    let value : h.V p ≡ Foreign t n = sym (first_part h.V parts p at) ∙ is in
    let opaque : is_opaque x.kind ≡ true = writable_elsewhere h.w h.acts (class_of x.kind) (h.V p) can (stands_as h.w h.acts x.kind (map h.V x.parts) (h.V p) (h.knows p x there)) (ap is_elsewhere value) in
    ap (λ (g : Option ℕ). option_map_or (opaque_at h.s.heap) g false) at
    ∙ ap (λ (g : Option Object). option_map_or (λ (o : Object). is_opaque o.kind) g false) there
    ∙ opaque

or_true : (a b : Bool) → b ≡ true → (a || b) ≡ true
or_true true b e = refl
or_true false b e = e

elsewhere_by : (h : Here) (k : Kind) (parts : List ℕ) (v : Value) → IsFrom h.w h.acts k v (origin k (map h.V parts)) → IsSeen h.s.heap k parts → is_elsewhere v ≡ true → (is_opaque k || views h.s.heap k parts) ≡ true
elsewhere_by h kind.ReadOnly parts v (inl (n, is)) seen e = no_own PyMemoryView n v is e
elsewhere_by h kind.ReadOnly parts v (inr (t, n, is, of, memory, only)) seen e = view_elsewhere h parts t n of seen
elsewhere_by h kind.Tuple parts v (n, is, at) seen e = no_own PyTuple n v is e
elsewhere_by h kind.List parts v (n, is, at) seen e = no_own PyList n v is e
elsewhere_by h kind.Dict parts v (n, is, at) seen e = no_own PyDict n v is e
elsewhere_by h kind.Set parts v (n, is, at) seen e = no_own PySet n v is e
elsewhere_by h kind.FrozenSet parts v (n, is, at) seen e = no_own PyFrozenSet n v is e
elsewhere_by h (kind.ByteArray bytes) parts v (n, is, at) seen e = no_own PyByteArray n v is e
elsewhere_by h (kind.Global names) parts v from seen e = refl
elsewhere_by h kind.StackGlobal parts v from seen e = refl
elsewhere_by h (kind.Ext m) parts v from seen e = refl
elsewhere_by h (kind.Inst names) parts v from seen e = refl
elsewhere_by h kind.Call parts v from seen e = refl
elsewhere_by h kind.New parts v from seen e = refl
elsewhere_by h kind.NewEx parts v from seen e = refl
elsewhere_by h kind.Obj parts v from seen e = refl
elsewhere_by h (kind.PersistentLine line) parts v from seen e = refl
elsewhere_by h kind.Persistent parts v from seen e = refl
elsewhere_by h (kind.Buffer m) parts v from seen e = refl
elsewhere_by h k parts v from seen e = no_plain k v from e

-- what comes from elsewhere is an opaque object or a view of one
elsewhere_loose : (h : Here) (id : ℕ) → IsWhole h.s → id < length h.s.heap → is_elsewhere (h.V id) ≡ true → loose_at h.s.heap id ≡ true
elsewhere_loose h id whole within e =
    let o = object_at h.s.heap id within in
    ap (λ (g : Option Object). option_map_or (λ (x : Object). is_opaque x.kind) g false || option_map_or (λ (x : Object). views h.s.heap x.kind x.parts) g false) o.1
    ∙ elsewhere_by h o.0.kind o.0.parts (h.V id) (h.knows id o.0 o.1) (whole.views id o.0 o.1) e

-- what is neither cannot be called
pub not_elsewhere : (h : Here) (id : ℕ) → IsWhole h.s → id < length h.s.heap → loose_at h.s.heap id ≡ false → is_elsewhere (h.V id) ≡ false
not_elsewhere h id whole within e = both_ways (is_elsewhere (h.V id)) (λ is. absurd (no_two (loose_at h.s.heap id) (elsewhere_loose h id whole within is) e))

-- ---- what nothing can be gone through of

iterates_by : (w : World) (acts : List Act) (k : Kind) (vs : List Value) (v : Value) → IsFrom w acts k v (origin k vs) → can_iterate k ≡ false → iterates v ≡ false
iterates_by w acts kind.None vs v from e = ap iterates from
iterates_by w acts kind.True vs v from e = ap iterates from
iterates_by w acts kind.False vs v from e = ap iterates from
iterates_by w acts (kind.Int n) vs v from e = ap iterates from
iterates_by w acts (kind.IntLine text) vs v from e = ap iterates from
iterates_by w acts (kind.Long bytes) vs v from e = ap iterates from
iterates_by w acts (kind.LongLine text) vs v from e = ap iterates from
iterates_by w acts (kind.Float bytes) vs v from e = ap iterates from
iterates_by w acts (kind.FloatLine text) vs v from e = ap iterates from
iterates_by w acts _ vs v from e = absurd cc

pub not_iterates : (h : Here) (id : ℕ) → id < length h.s.heap → iterates_at h.s.heap id ≡ false → iterates (h.V id) ≡ false
not_iterates h id within e =
    let o = object_at h.s.heap id within in
    iterates_by h.w h.acts o.0.kind (map h.V o.0.parts) (h.V id) (h.knows id o.0 o.1) (not_there can_iterate h.s.heap id o.0 o.1 e)

-- ---- what has no keys

keys_by : (w : World) (acts : List Act) (k : Kind) (vs : List Value) (v : Value) → is_elsewhere v ≡ false → IsFrom w acts k v (origin k vs) → meets demand.Keywords k ≡ false → has_keys w acts v ≡ false
keys_by w acts kind.ReadOnly vs v near (inl (n, is)) e = ap (has_keys w acts) is
keys_by w acts kind.ReadOnly vs v near (inr (t, n, is, of, memory, only)) e = absurd (no_two (is_elsewhere v) (ap is_elsewhere is) near)
keys_by w acts kind.Tuple vs v near (n, is, at) e = ap (has_keys w acts) is
keys_by w acts kind.List vs v near (n, is, at) e = ap (has_keys w acts) is
keys_by w acts kind.Set vs v near (n, is, at) e = ap (has_keys w acts) is
keys_by w acts kind.FrozenSet vs v near (n, is, at) e = ap (has_keys w acts) is
keys_by w acts (kind.ByteArray bytes) vs v near (n, is, at) e = ap (has_keys w acts) is
keys_by w acts kind.Dict vs v near from e = absurd cc
keys_by w acts (kind.Global names) vs v near from e = absurd cc
keys_by w acts kind.StackGlobal vs v near from e = absurd cc
keys_by w acts (kind.Ext m) vs v near from e = absurd cc
keys_by w acts (kind.Inst names) vs v near from e = absurd cc
keys_by w acts kind.Call vs v near from e = absurd cc
keys_by w acts kind.New vs v near from e = absurd cc
keys_by w acts kind.NewEx vs v near from e = absurd cc
keys_by w acts kind.Obj vs v near from e = absurd cc
keys_by w acts (kind.PersistentLine line) vs v near from e = absurd cc
keys_by w acts kind.Persistent vs v near from e = absurd cc
keys_by w acts (kind.Buffer m) vs v near from e = absurd cc
keys_by w acts k vs v near from e = ap (has_keys w acts) from

-- what may be of any type may have keys
any_keyed : (c : Class) → is_any c ≡ true → class_meets demand.Keywords c ≡ true
any_keyed class.Dict e = refl
any_keyed _ e = e

opaque_keyed : (g : Option Object) → option_map_or (λ (o : Object). is_opaque o.kind) g false ≡ true → option_map_or (λ (o : Object). meets demand.Keywords o.kind) g false ≡ true
opaque_keyed None e = absurd cc
opaque_keyed (Some o) e = any_keyed (class_of o.kind) e

pub neither : (a b : Bool) → (a || b) ≡ false → (a ≡ false) × (b ≡ false)
neither true b e = absurd cc
neither false b e = (refl, e)

both_false : (a b : Bool) → a ≡ false → b ≡ false → (a || b) ≡ false
both_false true b e f = absurd cc
both_false false b e f = f

pub not_keys : (h : Here) (id : ℕ) → IsWhole h.s → id < length h.s.heap → keyed_at h.s id ≡ false → has_keys h.w h.acts (h.V id) ≡ false
not_keys h id whole within e =
    let o = object_at h.s.heap id within in
    let both = neither (object_meets demand.Keywords h.s id) (view_at h.s.heap id) e in
    let closed : opaque_at h.s.heap id ≡ false = both_ways (opaque_at h.s.heap id) (λ is. absurd (no_two (object_meets demand.Keywords h.s id) (opaque_keyed (slice_get h.s.heap id) is) both.0)) in
    keys_by h.w h.acts o.0.kind (map h.V o.0.parts) (h.V id) (not_elsewhere h id whole within (both_false (opaque_at h.s.heap id) (view_at h.s.heap id) closed both.1)) (h.knows id o.0 o.1) (not_there (meets demand.Keywords) h.s.heap id o.0 o.1 both.0)

-- ---- what is no text

memory_no_text : (w : World) (t : PyType) (n : ℕ) → has_memory t ≡ true → is_str w (Foreign t n) ≡ false
memory_no_text w PyStr n e = absurd cc
memory_no_text w _ n e = refl

text_by : (w : World) (acts : List Act) (k : Kind) (vs : List Value) (v : Value) → IsFrom w acts k v (origin k vs) → meets demand.Text k ≡ false → is_str w v ≡ false
text_by w acts kind.ReadOnly vs v (inl (n, is)) e = ap (is_str w) is
text_by w acts kind.ReadOnly vs v (inr (t, n, is, of, memory, only)) e = ap (is_str w) is ∙ memory_no_text w t n memory
text_by w acts kind.Tuple vs v (n, is, at) e = ap (is_str w) is
text_by w acts kind.List vs v (n, is, at) e = ap (is_str w) is
text_by w acts kind.Dict vs v (n, is, at) e = ap (is_str w) is
text_by w acts kind.Set vs v (n, is, at) e = ap (is_str w) is
text_by w acts kind.FrozenSet vs v (n, is, at) e = ap (is_str w) is
text_by w acts (kind.ByteArray bytes) vs v (n, is, at) e = ap (is_str w) is
text_by w acts (kind.Global names) vs v from e = absurd cc
text_by w acts kind.StackGlobal vs v from e = absurd cc
text_by w acts (kind.Ext m) vs v from e = absurd cc
text_by w acts (kind.Inst names) vs v from e = absurd cc
text_by w acts kind.Call vs v from e = absurd cc
text_by w acts kind.New vs v from e = absurd cc
text_by w acts kind.NewEx vs v from e = absurd cc
text_by w acts kind.Obj vs v from e = absurd cc
text_by w acts (kind.PersistentLine line) vs v from e = absurd cc
text_by w acts kind.Persistent vs v from e = absurd cc
text_by w acts (kind.Buffer m) vs v from e = absurd cc
text_by w acts (kind.Text bytes) vs v from e = absurd cc
text_by w acts (kind.TextLine bytes) vs v from e = absurd cc
text_by w acts (kind.LegacyString bytes) vs v from e = absurd cc
text_by w acts (kind.LegacyLine bytes) vs v from e = absurd cc
text_by w acts k vs v from e = ap (is_str w) from

pub not_text : (h : Here) (id : ℕ) → id < length h.s.heap → object_meets demand.Text h.s id ≡ false → is_str h.w (h.V id) ≡ false
not_text h id within e =
    let o = object_at h.s.heap id within in
    text_by h.w h.acts o.0.kind (map h.V o.0.parts) (h.V id) (h.knows id o.0 o.1) (not_there (meets demand.Text) h.s.heap id o.0 o.1 e)

-- ---- what has no buffer

Blind : World → Value → Unpickler → Type 0
Blind w v u = viewed w v u ≡ Raised u.acts

blind_as : (w : World) (x v : Value) (u : Unpickler) → v ≡ x → Blind w x u → Blind w v u
unfolding Blind
blind_as w x v u is e = ap (λ (y : Value). viewed w y u) is ∙ e

view_by : (w : World) (acts : List Act) (k : Kind) (vs : List Value) (v : Value) (u : Unpickler) → is_string k ≡ false → IsFrom w acts k v (origin k vs) → meets demand.ReadOnly k ≡ false → meets demand.Writable k ≡ false → Blind w v u
unfolding Blind
view_by w acts kind.Tuple vs v u text (n, is, at) r e = blind_as w (Own PyTuple n) v u is refl
view_by w acts kind.List vs v u text (n, is, at) r e = blind_as w (Own PyList n) v u is refl
view_by w acts kind.Dict vs v u text (n, is, at) r e = blind_as w (Own PyDict n) v u is refl
view_by w acts kind.Set vs v u text (n, is, at) r e = blind_as w (Own PySet n) v u is refl
view_by w acts kind.FrozenSet vs v u text (n, is, at) r e = blind_as w (Own PyFrozenSet n) v u is refl
view_by w acts kind.ReadOnly vs v u text from r e = absurd cc
view_by w acts (kind.Bytes bytes) vs v u text from r e = absurd cc
view_by w acts (kind.ByteArray bytes) vs v u text from r e = absurd cc
view_by w acts (kind.Global names) vs v u text from r e = absurd cc
view_by w acts kind.StackGlobal vs v u text from r e = absurd cc
view_by w acts (kind.Ext m) vs v u text from r e = absurd cc
view_by w acts (kind.Inst names) vs v u text from r e = absurd cc
view_by w acts kind.Call vs v u text from r e = absurd cc
view_by w acts kind.New vs v u text from r e = absurd cc
view_by w acts kind.NewEx vs v u text from r e = absurd cc
view_by w acts kind.Obj vs v u text from r e = absurd cc
view_by w acts (kind.PersistentLine line) vs v u text from r e = absurd cc
view_by w acts kind.Persistent vs v u text from r e = absurd cc
view_by w acts (kind.Buffer m) vs v u text from r e = absurd cc
view_by w acts (kind.LegacyString bytes) vs v u text from r e = absurd cc
view_by w acts (kind.LegacyLine bytes) vs v u text from r e = absurd cc
view_by w acts k vs v u text from r e = blind_as w (Plain k) v u from refl

pub not_viewed : (h : Here) (id : ℕ) (u : Unpickler) → id < length h.s.heap → string_at h.s.heap id ≡ false → object_meets demand.ReadOnly h.s id ≡ false → object_meets demand.Writable h.s id ≡ false → viewed h.w (h.V id) u ≡ Raised u.acts
unfolding Blind
not_viewed h id u within text r e =
    let o = object_at h.s.heap id within in
    view_by h.w h.acts o.0.kind (map h.V o.0.parts) (h.V id) u (not_there is_string h.s.heap id o.0 o.1 text) (h.knows id o.0 o.1) (not_there (meets demand.ReadOnly) h.s.heap id o.0 o.1 r) (not_there (meets demand.Writable) h.s.heap id o.0 o.1 e)

-- ---- what nothing can be put into

can_fill : Filling → PyType → Bool
can_fill filling.Append PyList = true
can_fill filling.Append PyByteArray = true
can_fill filling.SetItem PyDict = true
can_fill filling.SetItem PyList = true
can_fill filling.SetItem PyByteArray = true
can_fill filling.Add PySet = true
can_fill f t = false

own_raises : (w : World) (f : Filling) (t : PyType) (n : ℕ) (items : List Value) (u : Unpickler) → can_fill f t ≡ false → fill_own w f t (Own t n) items u ≡ Raised u.acts
unfolding can_fill
own_raises w filling.Append PyList n items u e = absurd cc
own_raises w filling.Append PyByteArray n items u e = absurd cc
own_raises w filling.SetItem PyDict n items u e = absurd cc
own_raises w filling.SetItem PyList n items u e = absurd cc
own_raises w filling.SetItem PyByteArray n items u e = absurd cc
own_raises w filling.Add PySet n items u e = absurd cc
own_raises w _ _ n items u e = refl

-- the type of what the unpickler makes, by its class
own_type : Class → PyType
own_type class.Tuple = PyTuple
own_type class.List = PyList
own_type class.Dict = PyDict
own_type class.Set = PySet
own_type class.ByteArray = PyByteArray
own_type class.ReadOnly = PyMemoryView
own_type _ = PyFrozenSet

class_fill : (f : Filling) (c : Class) → class_meets (demand.Target f) c ≡ false → can_fill f (own_type c) ≡ false
unfolding can_fill own_type
class_fill filling.Append class.List e = absurd cc
class_fill filling.Append class.ByteArray e = absurd cc
class_fill filling.SetItem class.Dict e = absurd cc
class_fill filling.SetItem class.List e = absurd cc
class_fill filling.SetItem class.ByteArray e = absurd cc
class_fill filling.Add class.Set e = absurd cc
class_fill filling.Build c e = absurd cc
class_fill _ _ e = refl

Refuses : World → Filling → Value → List Value → Unpickler → Type 0
Refuses w f v items u = fill w f v items u ≡ Raised u.acts

refuses_plain : (w : World) (f : Filling) (k : Kind) (v : Value) (items : List Value) (u : Unpickler) → v ≡ Plain k → Refuses w f v items u
unfolding Refuses
refuses_plain w f k v items u is = ap (λ (x : Value). fill w f x items u) is

refuses_own : (w : World) (f : Filling) (t : PyType) (n : ℕ) (v : Value) (items : List Value) (u : Unpickler) → v ≡ Own t n → can_fill f t ≡ false → Refuses w f v items u
unfolding Refuses
refuses_own w f t n v items u is e = ap (λ (x : Value). fill w f x items u) is ∙ own_raises w f t n items u e

fill_class : (w : World) (acts : List Act) (f : Filling) (c : Class) (v : Value) (items : List Value) (u : Unpickler) → StandsAs w acts c v → class_meets (demand.Target f) c ≡ false → is_elsewhere v ≡ false → Refuses w f v items u
unfolding own_type
fill_class w acts f class.Plain v items u (inl (k, is)) m e = refuses_plain w f k v items u is
fill_class w acts f class.Plain v items u (inr (n, is)) m e = refuses_own w f PyFrozenSet n v items u is (class_fill f class.Plain m)
fill_class w acts f class.Text v items u (k, is) m e = refuses_plain w f k v items u is
fill_class w acts f class.Tuple v items u (n, is) m e = refuses_own w f PyTuple n v items u is (class_fill f class.Tuple m)
fill_class w acts f class.List v items u (n, is) m e = refuses_own w f PyList n v items u is (class_fill f class.List m)
fill_class w acts f class.Dict v items u (n, is) m e = refuses_own w f PyDict n v items u is (class_fill f class.Dict m)
fill_class w acts f class.Set v items u (n, is) m e = refuses_own w f PySet n v items u is (class_fill f class.Set m)
fill_class w acts f class.ByteArray v items u (n, is) m e = refuses_own w f PyByteArray n v items u is (class_fill f class.ByteArray m)
fill_class w acts f class.ReadOnly v items u (inl (bytes, is)) m e = refuses_plain w f (kind.Bytes bytes) v items u is
fill_class w acts f class.ReadOnly v items u (inr (inl (n, is))) m e = refuses_own w f PyMemoryView n v items u is (class_fill f class.ReadOnly m)
fill_class w acts f class.ReadOnly v items u (inr (inr (t, n, is, memory, only))) m e = absurd (no_two (is_elsewhere v) (ap is_elsewhere is) e)
fill_class w acts f class.Opaque v items u (t, n, is) m e = absurd (no_two (is_elsewhere v) (ap is_elsewhere is) e)

-- of an object that is no target, and whose value is not from elsewhere
pub not_filled : (h : Here) (f : Filling) (id : ℕ) (items : List Value) (u : Unpickler) → id < length h.s.heap → object_meets (demand.Target f) h.s id ≡ false → is_elsewhere (h.V id) ≡ false
    → fill h.w f (h.V id) items u ≡ Raised u.acts
unfolding Refuses
not_filled h f id items u within m e =
    let o = object_at h.s.heap id within in
    fill_class h.w h.acts f (class_of o.0.kind) (h.V id) items u (stands_as h.w h.acts o.0.kind (map h.V o.0.parts) (h.V id) (h.knows id o.0 o.1)) (not_there (meets (demand.Target f)) h.s.heap id o.0 o.1 m) e

-- what is opaque may be filled
pub target_loose : (h : Here) (f : Filling) (id : ℕ) → id < length h.s.heap → object_meets (demand.Target f) h.s id ≡ false → view_at h.s.heap id ≡ false → loose_at h.s.heap id ≡ false
target_loose h f id within m none =
    let o = object_at h.s.heap id within in
    ap (λ (b : Bool). opaque_at h.s.heap id || b) none
    ∙ or_false (opaque_at h.s.heap id)
    ∙ ap (λ (g : Option Object). option_map_or (λ (x : Object). is_opaque x.kind) g false) o.1
    ∙ no_any f (class_of o.0.kind) (not_there (meets (demand.Target f)) h.s.heap id o.0 o.1 m)
  where
    or_false : (b : Bool) → (b || false) ≡ b
    or_false true = refl
    or_false false = refl

    no_any : (f : Filling) (c : Class) → class_meets (demand.Target f) c ≡ false → is_any c ≡ false
    no_any filling.Append class.Opaque e = absurd cc
    no_any filling.SetItem class.Opaque e = absurd cc
    no_any filling.Add class.Opaque e = absurd cc
    no_any filling.Build class.Opaque e = absurd cc
    no_any _ _ e = refl

-- BUILD asks only that its object is there
pub build_meets : (h : Here) (id : ℕ) → id < length h.s.heap → object_meets (demand.Target filling.Build) h.s id ≡ true
build_meets h id within =
    let o = object_at h.s.heap id within in
    ap (λ (g : Option Object). option_map_or (λ (x : Object). meets (demand.Target filling.Build) x.kind) g false) o.1
