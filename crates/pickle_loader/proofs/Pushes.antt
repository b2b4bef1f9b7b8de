-- What a method comes to where a row makes an object.
use Rattle.std.proofs.Common.{◌≡◌, ◌⊎◌, ℕ, ◌-◌, ◌<◌, Bool, true, false, List, [], ◌∷◌, ◌++◌, length, map, Option, Some, None, refl, sym, ap, subst, ◌∙◌, inl, inr, arith, length-append}
use Rattle.std.specs.Prelude.{slice_get, ◌||◌, if◌then◌else◌}
use Rattle.std.specs.Option.{unwrap_or, option_map_or}
use Rattle.std.proofs.lemmas.Bool.{cases_lt}
use Rattle.std.proofs.lemmas.Option.{slice_get_within}
use Rattle.std.proofs.lemmas.List.{map-append, append-nil, append_assoc}
use Rattle.pickle_doc.proofs.Lists.{get-within}
use Rattle.pickle_ops.specs.declared.kind.Kind.{Kind}
use Rattle.pickle_ops.specs.declared.kind.Kind.TheVariants as kind
use Rattle.pickle_ops.specs.declared.class.Class.{Class}
use Rattle.pickle_ops.specs.declared.class.Class.TheVariants as class
use Rattle.pickle_ops.specs.Object.{Object}
use Rattle.pickle_ops.specs.Kind.{class_of, is_opaque}
use Rattle.pickle_machine.specs.State.{State}
use Rattle.pickle_machine.specs.Move.{push}
use Rattle.pickle_machine.proofs.Shown.{last_of_more}
use Rattle.pickle_calls.specs.declared.event.Event.TheVariants as event
use Rattle.pickle_calls.specs.Event.{made_event, made_as, is_shown, is_view}
use Rattle.pickle_calls.proofs.Steps.{some_same, none_made}
use Rattle.pickle_loader.specs.Environment.{PyType, PyTuple, PyList, PyDict, PySet, PyFrozenSet, PyByteArray, PyMemoryView, Value, Plain, Own, Foreign, Act, Make, View, Reply, Raises, Answers, World}
use Rattle.pickle_loader.specs.Unpickler.{Step, Ran, Stopped, Raised, item, append, answered, has_memory}
use Rattle.pickle_loader.specs.Listed.{listed_of, making, acts_listed}
use Rattle.pickle_loader.specs.Values.{Origin, AsLiteral, AsMade, AsAnswer, AsView, origin, WasReadOnly, IsViewOf, IsFrom, Knows}
use Rattle.pickle_loader.specs.Laws.{IsResult}
use Rattle.pickle_loader.proofs.Images.{image, listed-append}

-- ---- which values stand for objects

-- a literal, or a container that is no list, dictionary, set or tuple
abbrev pub IsPlain : Value → Type 0
IsPlain v = ((k : Kind) × (v ≡ Plain k)) ⊎ ((n : ℕ) × (v ≡ Own PyFrozenSet n))

-- what can only be read already, after these acts: bytes, a view, or a value whose memory says so
abbrev pub IsRead : World → List Act → Value → Type 0
IsRead w acts v = ((bytes : List ℕ) × (v ≡ Plain (kind.Bytes bytes))) ⊎ (((n : ℕ) × (v ≡ Own PyMemoryView n)) ⊎ ((t : PyType) × (n : ℕ) × (v ≡ Foreign t n) × (has_memory t ≡ true) × (w.readonly acts (Foreign t n) ≡ true)))

abbrev pub StandsAs : World → List Act → Class → Value → Type 0
StandsAs w acts class.Plain v = IsPlain v
StandsAs w acts class.Opaque v = (t : PyType) × (n : ℕ) × (v ≡ Foreign t n)
StandsAs w acts class.Text v = (k : Kind) × (v ≡ Plain k)
StandsAs w acts class.Tuple v = (n : ℕ) × (v ≡ Own PyTuple n)
StandsAs w acts class.List v = (n : ℕ) × (v ≡ Own PyList n)
StandsAs w acts class.Dict v = (n : ℕ) × (v ≡ Own PyDict n)
StandsAs w acts class.Set v = (n : ℕ) × (v ≡ Own PySet n)
StandsAs w acts class.ReadOnly v = IsRead w acts v
StandsAs w acts class.ByteArray v = (n : ℕ) × (v ≡ Own PyByteArray n)

-- what could only be read when READONLY_BUFFER looked at it stays so
stays_read : (w : World) (acts : List Act) (v : Value) → WasReadOnly w acts v → w.readonly acts v ≡ true
stays_read w acts v (before, more, split, only) = subst (λ (l : List Act). w.readonly l v ≡ true) (sym split) (w.stays_readonly before more v only)

-- a view can only be read
pub view_reads : (w : World) (acts : List Act) (seen v : Value) → IsViewOf w acts seen v → IsRead w acts v
view_reads w acts seen v (inl own) = inr (inl own)
view_reads w acts seen v (inr (t, n, is, of, memory, was)) = inr (inr (t, n, is, memory, stays_read w acts (Foreign t n) was))

-- an origin says the class
pub stands_as : (w : World) (acts : List Act) (k : Kind) (vs : List Value) (v : Value) → IsFrom w acts k v (origin k vs) → StandsAs w acts (class_of k) v
stands_as w acts kind.Tuple vs v (n, is, at) = (n, is)
stands_as w acts kind.List vs v (n, is, at) = (n, is)
stands_as w acts kind.Dict vs v (n, is, at) = (n, is)
stands_as w acts kind.Set vs v (n, is, at) = (n, is)
stands_as w acts (kind.ByteArray bytes) vs v (n, is, at) = (n, is)
stands_as w acts (kind.Global names) vs v (t, n, p, is, at) = (t, n, is)
stands_as w acts kind.StackGlobal vs v (t, n, p, is, at) = (t, n, is)
stands_as w acts (kind.Ext m) vs v (t, n, p, is, at) = (t, n, is)
stands_as w acts (kind.Inst names) vs v (t, n, p, is, at) = (t, n, is)
stands_as w acts kind.Call vs v (t, n, p, is, at) = (t, n, is)
stands_as w acts kind.New vs v (t, n, p, is, at) = (t, n, is)
stands_as w acts kind.NewEx vs v (t, n, p, is, at) = (t, n, is)
stands_as w acts kind.Obj vs v (t, n, p, is, at) = (t, n, is)
stands_as w acts (kind.PersistentLine line) vs v (t, n, p, is, at) = (t, n, is)
stands_as w acts kind.Persistent vs v (t, n, p, is, at) = (t, n, is)
stands_as w acts (kind.Buffer m) vs v (t, n, p, is, at) = (t, n, is)
stands_as w acts kind.ReadOnly vs v from = view_reads w acts (item 0 vs) v from
stands_as w acts kind.FrozenSet vs v (n, is, at) = inr (n, is)
stands_as w acts (kind.Text bytes) vs v from = (kind.Text bytes, from)
stands_as w acts (kind.TextLine bytes) vs v from = (kind.TextLine bytes, from)
stands_as w acts (kind.LegacyString bytes) vs v from = (kind.LegacyString bytes, from)
stands_as w acts (kind.LegacyLine bytes) vs v from = (kind.LegacyLine bytes, from)
stands_as w acts (kind.Bytes bytes) vs v from = inl (bytes, from)
stands_as w acts k vs v from = inl (k, from)

-- an act stays where it is
get_more : (acts more : List Act) (n : ℕ) (a : Act) → slice_get acts n ≡ Some a → slice_get (acts ++ more) n ≡ Some a
get_more acts more n a e = get-within acts more n (slice_get_within acts n a e) ∙ e

was_more : (w : World) (acts more : List Act) (v : Value) → WasReadOnly w acts v → WasReadOnly w (acts ++ more) v
was_more w acts more v (before, after, split, only) = (before, after ++ more, ap (λ (l : List Act). l ++ more) split ∙ append_assoc before (View v ∷ after) more, only)

from_more : (w : World) (acts more : List Act) (k : Kind) (v : Value) (from : Origin) → IsFrom w acts k v from → IsFrom w (acts ++ more) k v from
from_more w acts more k v AsLiteral is = is
from_more w acts more k v (AsMade t items) (n, is, at) = (n, is, get_more acts more n (Make t items) at)
from_more w acts more k v (AsAnswer act) (t, n, proto, is, at) = (t, n, proto, is, get_more acts more n (act proto) at)
from_more w acts more k v (AsView seen) (inl is) = inl is
from_more w acts more k v (AsView seen) (inr (t, n, is, of, memory, was)) = inr (t, n, is, of, memory, was_more w acts more (Foreign t n) was)

pub knows_more : (w : World) (V : ℕ → Value) (acts more : List Act) (heap : List Object) → Knows w V acts heap → Knows w V (acts ++ more) heap
knows_more w V acts more heap knows id o e = from_more w acts more o.kind (V id) (origin o.kind (map V o.parts)) (knows id o e)

-- ---- what a method is to come to

-- the values on top
abbrev pub top_value : List Value → Value
top_value vs = item (length vs - 1) vs

-- where it goes on, and the map has the value on top for an object that was made, it holds what the state holds, and did what the event
-- lists; where it raised, a beginning of that
abbrev pub Good : (ℕ → Value) → World → List Object → List Act → State → List Act → ℕ → Step → Type 0
Good V w heap acts t new proto (Ran q) =
    (length heap < length t.heap → V (length heap) ≡ top_value q.stack) → (q ≡ image V t proto q.acts) × Knows w V q.acts t.heap × (listed_of q.acts ≡ listed_of acts ++ new)
Good V w heap acts t new proto (Stopped v q) = (listed_of q.acts ≡ listed_of acts ++ new) × Knows w V q.acts t.heap × (t.stopped ≡ t.many) × (proto ≡ 0) × (0 < length t.results) × IsResult V t v × (q ≡ image V t q.proto q.acts)
Good V w heap acts t new proto (Raised done) = (rest : List Act) × (listed_of done ++ rest ≡ listed_of acts ++ new)

-- ---- an object is made

pub top_appended : (vs : List Value) (v : Value) → top_value (vs ++ v ∷ []) ≡ v
top_appended vs v =
    let place : length (vs ++ v ∷ []) - 1 ≡ length vs = omega (arith, length-append vs (v ∷ [])) in
    ap (λ (i : ℕ). item i (vs ++ v ∷ [])) place ∙ ap (λ (x : Option Value). unwrap_or x (Plain kind.None)) (last_of_more vs v)

pub knows_pushed : (w : World) (V : ℕ → Value) (acts : List Act) (heap : List Object) (x : Object) → Knows w V acts heap → IsFrom w acts x.kind (V (length heap)) (origin x.kind (map V x.parts)) → Knows w V acts (heap ++ x ∷ [])
knows_pushed w V acts heap x knows from id o e = elim (cases_lt id (length heap)) [
  | inl there ↦ knows id o (sym (get-within heap (x ∷ []) id there) ∙ e)
  | inr far ↦
      let within : id < length (heap ++ x ∷ []) = slice_get_within (heap ++ x ∷ []) id o e in
      let last : id ≡ length heap = omega (arith, within, far, length-append heap (x ∷ [])) in
      let is : slice_get (heap ++ x ∷ []) id ≡ Some x = ap (slice_get (heap ++ x ∷ [])) last ∙ last_of_more heap x in
      let same : o ≡ x = some_same (slice_get (heap ++ x ∷ []) id) o x e is in
      subst (λ (y : Object). IsFrom w acts y.kind (V id) (origin y.kind (map V y.parts))) (sym same) (subst (λ (i : ℕ). IsFrom w acts x.kind (V i) (origin x.kind (map V x.parts))) (sym last) from)
]

neither : (a b : Bool) → (a || b) ≡ false → a ≡ false
neither true b e = absurd cc
neither false b e = refl

-- what is not opaque is made by no act that is listed
nothing_listed : (proto : ℕ) (k : Kind) (vs : List Value) → is_opaque k ≡ false → making proto k vs ≡ []
nothing_listed proto (kind.Global names) vs e = absurd cc
nothing_listed proto kind.StackGlobal vs e = absurd cc
nothing_listed proto (kind.Ext n) vs e = absurd cc
nothing_listed proto (kind.Inst names) vs e = absurd cc
nothing_listed proto kind.Call vs e = absurd cc
nothing_listed proto kind.New vs e = absurd cc
nothing_listed proto kind.NewEx vs e = absurd cc
nothing_listed proto kind.Obj vs e = absurd cc
nothing_listed proto (kind.PersistentLine line) vs e = absurd cc
nothing_listed proto kind.Persistent vs e = absurd cc
nothing_listed proto (kind.Buffer n) vs e = absurd cc
nothing_listed proto _ vs e = refl

-- the event of an object that was made tells how it is made
pub listed_pushed : (V : ℕ → Value) (proto : ℕ) (s t : State) (heap : List Object) (x : Object) → t.heap ≡ heap ++ x ∷ []
    → acts_listed V proto s t (made_event t.heap (length heap)) ≡ making proto x.kind (map V x.parts)
listed_pushed V proto s t heap x e =
    let here : slice_get t.heap (length heap) ≡ Some x = ap (λ (l : List Object). slice_get l (length heap)) e ∙ last_of_more heap x in
    ap (λ (y : Option Object). acts_listed V proto s t (made_as t.heap (length heap) y)) here ∙ go here (is_shown t.heap x) refl
  where
    go : slice_get t.heap (length heap) ≡ Some x → (b : Bool) → is_shown t.heap x ≡ b → acts_listed V proto s t (if b then Some (event.Made (length heap)) else None) ≡ making proto x.kind (map V x.parts)
    go here true f = ap (λ (y : Option Object). option_map_or (λ (o : Object). making proto o.kind (map V o.parts)) y []) here
    go here false f = sym (nothing_listed proto x.kind (map V x.parts) (neither (is_opaque x.kind) (is_view t.heap x) f))

-- where none was made there is none
pub listed_stays : (V : ℕ → Value) (proto : ℕ) (s t : State) (heap : List Object) → t.heap ≡ heap → acts_listed V proto s t (made_event t.heap (length heap)) ≡ []
listed_stays V proto s t heap e = ap (acts_listed V proto s t) (ap (λ (l : List Object). made_event l (length heap)) e ∙ none_made heap)

pub pushed_good : (V : ℕ → Value) (w : World) (u : State) (k : Kind) (parts : List ℕ) (proto : ℕ) (acts acts2 new : List Act) (v : Value)
    → IsFrom w acts2 k v (origin k (map V parts)) → Knows w V acts2 u.heap → listed_of acts2 ≡ listed_of acts ++ new
    → Good V w u.heap acts (push k parts u) new proto (Ran (append v (image V u proto acts2)))
pushed_good V w u k parts proto acts acts2 new v from knows listed foretold =
    let x : Object = record { kind = k; parts = parts; changes = [] } in
    let is : V (length u.heap) ≡ v = foretold (omega (arith, length-append u.heap (x ∷ []))) ∙ top_appended (map V u.top) v in
    let stack : map V u.top ++ v ∷ [] ≡ map V (u.top ++ length u.heap ∷ []) = ap (λ (y : Value). map V u.top ++ y ∷ []) (sym is) ∙ sym (map-append V u.top (length u.heap ∷ [])) in
    (ap (λ (l : List Value). record (image V u proto acts2) { stack = l }) stack, knows_pushed w V acts2 u.heap x knows (subst (λ (y : Value). IsFrom w acts2 k y (origin k (map V parts))) (sym is) from), listed)

-- the value is the answer to the act
pub asked_good : (V : ℕ → Value) (w : World) (r : Reply) (u : State) (k : Kind) (parts : List ℕ) (proto : ℕ) (acts acts2 new : List Act) (a : ℕ → Act)
    → origin k (map V parts) ≡ AsAnswer a → Knows w V acts2 u.heap → listed_of (acts2 ++ a proto ∷ []) ≡ listed_of acts ++ new
    → Good V w u.heap acts (push k parts u) new proto (answered r (a proto) (image V u proto acts2) (λ v q. Ran (append v q)))
asked_good V w Raises u k parts proto acts acts2 new a from knows listed = ([], append-nil (listed_of (acts2 ++ a proto ∷ [])) ∙ listed)
asked_good V w (Answers t) u k parts proto acts acts2 new a from knows listed =
    pushed_good V w u k parts proto acts (acts2 ++ a proto ∷ []) new (Foreign t (length acts2))
    (subst (λ (x : Origin). IsFrom w (acts2 ++ a proto ∷ []) k (Foreign t (length acts2)) x) (sym from) (t, length acts2, proto, refl, last_of_more acts2 (a proto)))
    (knows_more w V acts2 (a proto ∷ []) u.heap knows) listed

-- the same where new acts are those of the object
pub listed_one : (acts : List Act) (a : Act) → listed_of (acts ++ a ∷ []) ≡ listed_of acts ++ listed_of (a ∷ [])
listed_one acts a = listed-append acts (a ∷ [])
