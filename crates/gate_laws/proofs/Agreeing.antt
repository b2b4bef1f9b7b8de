-- What objects come of is what their values come of.
use Rattle.std.proofs.Common.{◌≡◌, ◌⊎◌, ℕ, zero, suc, ◌+◌, true, List, [], ◌∷◌, ◌++◌, length, map, drop, Option, Some, None, refl, sym, ap, ap₂, subst, ◌∙◌, inl, inr, arith}
use Rattle.std.specs.Prelude.{slice_get}
use Rattle.std.specs.Option.{option_map, option_map_or}
use Rattle.pickle_ops.specs.declared.kind.Kind.{Kind}
use Rattle.pickle_ops.specs.declared.kind.Kind.TheVariants as kind
use Rattle.pickle_ops.specs.Object.{Object}
use Rattle.pickle_loader.specs.Environment.{PyType, Value, Foreign, Name, Line, Given, Act, Find, Extension, Call, New, NewEx, Instance, Persist, NextBuffer, World}
use Rattle.pickle_loader.specs.Unpickler.{item}
use Rattle.pickle_loader.specs.Values.{origin, IsFrom, Knows}
use Rattle.pickle_allow.specs.declared.list.Use.{Use}
use Rattle.pickle_allow.specs.declared.list.Use.TheVariants as use_of
use Rattle.pickle_allow.specs.declared.list.Entry.{Entry}
use Rattle.pickle_allow.specs.Allow.{Source, may_find, may_use}
use Rattle.pickle_allow.specs.Source.{line_text, literal_text, text_at, import_name, itself, made_of, of_part, part_text, callee_source, source_at, source_of, with_more}
use Rattle.gate_laws.specs.Permitted.{name_text, found_by, found, value_source, answer_source, permits, permits_all}
use Rattle.gate_laws.proofs.Walk.{sources_by, sources_append, source_behind, placed, one_longer}

-- ---- sources

-- each object that comes of something is a value from elsewhere, and the answer comes of the same
abbrev pub Agrees : (ℕ → Value) → List (Option Source) → List Act → Type 0
Agrees V from acts = (id : ℕ) (s : Source) → source_at from id ≡ Some s → (t : PyType) × (k : ℕ) × (V id ≡ Foreign t k) × (source_at (sources_by [] acts) k ≡ Some s)

pub agrees_more : (V : ℕ → Value) (from : List (Option Source)) (acts more : List Act) → Agrees V from acts → Agrees V from (acts ++ more)
agrees_more V from acts more h id s e =
    let a = h id s e in
    (a.0, a.1, a.2, ap (λ (l : List (Option Source)). source_at l a.1) (sources_append [] acts more) ∙ source_behind (sources_by [] acts) more a.1 s a.3)

pub value_agrees : (V : ℕ → Value) (from : List (Option Source)) (acts : List Act) → Agrees V from acts → (id : ℕ) (s : Source) → source_at from id ≡ Some s → value_source (sources_by [] acts) (V id) ≡ Some s
value_agrees V from acts h id s e = let a = h id s e in ap (value_source (sources_by [] acts)) a.2 ∙ a.3

-- what may be done with an object may be done with its value
pub use_agrees : (list : List Entry) (use_for : Use) (V : ℕ → Value) (from : List (Option Source)) (acts : List Act) → Agrees V from acts → (id : ℕ) → may_use list use_for (source_at from id) ≡ true
    → may_use list use_for (value_source (sources_by [] acts) (V id)) ≡ true
use_agrees list use_for V from acts h id e = go (source_at from id) refl e
  where
    go : (x : Option Source) → source_at from id ≡ x → may_use list use_for x ≡ true → may_use list use_for (value_source (sources_by [] acts) (V id)) ≡ true
    go None is f = absurd cc
    go (Some s) is f = ap (may_use list use_for) (value_agrees V from acts h id s is) ∙ f

-- ---- texts

-- the value of an object that is a text that can be read is that text
abbrev pub Reads : (ℕ → Value) → List Object → Type 0
Reads V heap = (id : ℕ) (x : List ℕ) → text_at heap id ≡ Some x → name_text (Given (V id)) ≡ Some x

literal_reads : (w : World) (acts : List Act) (k : Kind) (vs : List Value) (v : Value) (x : List ℕ) → IsFrom w acts k v (origin k vs) → literal_text k ≡ Some x → name_text (Given v) ≡ Some x
literal_reads w acts (kind.Text bytes) vs v x from e = ap (λ (y : Value). name_text (Given y)) from ∙ e
literal_reads w acts _ vs v x from e = absurd cc

pub knows_reads : (w : World) (V : ℕ → Value) (acts : List Act) (heap : List Object) → Knows w V acts heap → Reads V heap
knows_reads w V acts heap knows id x e = go (slice_get heap id) refl e
  where
    go : (y : Option Object) → slice_get heap id ≡ y → option_map_or (λ (o : Object). literal_text o.kind) y None ≡ Some x → name_text (Given (V id)) ≡ Some x
    go None is f = absurd cc
    go (Some o) is f = literal_reads w acts o.kind (map V o.parts) (V id) x (knows id o is) f

-- ---- parts

pub item_is : (V : ℕ → Value) (parts : List ℕ) (i id : ℕ) → slice_get parts i ≡ Some id → item i (map V parts) ≡ V id
item_is V [] i id e = absurd cc
item_is V (x ∷ parts) zero id e = let same : x ≡ id = cc in ap V same
item_is V (x ∷ parts) (suc i) id e = item_is V parts i id e

-- a part of which something is there
part_there : {A : Type 0} (look : ℕ → Option A) (p : Option ℕ) (x : A) → of_part look p ≡ Some x → (id : ℕ) × (p ≡ Some id) × (look id ≡ Some x)
part_there look None x e = absurd cc
part_there look (Some id) x e = (id, refl, e)

-- texts of parts are read as the values of the parts are
abbrev pub ReadsParts : (ℕ → Value) → List Object → List ℕ → Type 0
ReadsParts V heap parts = (i id : ℕ) (x : List ℕ) → slice_get parts i ≡ Some id → text_at heap id ≡ Some x → name_text (Given (V id)) ≡ Some x

pub reads_parts : (V : ℕ → Value) (heap : List Object) (parts : List ℕ) → Reads V heap → ReadsParts V heap parts
reads_parts V heap parts h i id x e f = h id x f

part_reads : (V : ℕ → Value) (heap : List Object) (parts : List ℕ) (i : ℕ) (x : List ℕ) → ReadsParts V heap parts → part_text heap parts i ≡ Some x → name_text (Given (item i (map V parts))) ≡ Some x
part_reads V heap parts i x h e =
    let p = part_there (text_at heap) (slice_get parts i) x e in
    ap (λ (v : Value). name_text (Given v)) (item_is V parts i p.0 p.1) ∙ h i p.0 x p.1 p.2

-- ---- imports

both_texts : (proto : ℕ) (x y : Option (List ℕ)) (s : List ℕ) → import_name proto x y ≡ Some s → (a : List ℕ) × (b : List ℕ) × (x ≡ Some a) × (y ≡ Some b)
both_texts proto (Some a) (Some b) s e = (a, b, refl, refl)
both_texts proto (Some a) None s e = absurd cc
both_texts proto None y s e = absurd cc

-- one name by what is found for texts
pub name_found : (proto : ℕ) (x y : Option (List ℕ)) → found_by proto x y ≡ import_name proto x y
name_found proto (Some a) (Some b) = refl
name_found proto (Some a) None = refl
name_found proto None y = refl

may_some : (list : List Entry) (x : Option (List ℕ)) → may_find list x ≡ true → (s : List ℕ) × (x ≡ Some s)
may_some list None e = absurd cc
may_some list (Some s) e = (s, refl)

-- what is found for two objects is what the gate says, where it says something
pub found_given : (V : ℕ → Value) (heap : List Object) (proto : ℕ) (parts : List ℕ) (s : List ℕ) → ReadsParts V heap parts → import_name proto (part_text heap parts 0) (part_text heap parts 1) ≡ Some s
    → found proto (Given (item 0 (map V parts))) (Given (item 1 (map V parts))) ≡ Some s
found_given V heap proto parts s reads e =
    let two = both_texts proto (part_text heap parts 0) (part_text heap parts 1) s e in
    ap₂ (λ (x y : Option (List ℕ)). found_by proto x y) (part_reads V heap parts 0 two.0 reads two.2 ∙ sym two.2) (part_reads V heap parts 1 two.1 reads two.3 ∙ sym two.3)
    ∙ name_found proto (part_text heap parts 0) (part_text heap parts 1) ∙ e

pub find_given : (list : List Entry) (V : ℕ → Value) (heap : List Object) (proto : ℕ) (parts : List ℕ) → ReadsParts V heap parts → may_find list (import_name proto (part_text heap parts 0) (part_text heap parts 1)) ≡ true
    → may_find list (found proto (Given (item 0 (map V parts))) (Given (item 1 (map V parts)))) ≡ true
find_given list V heap proto parts reads e =
    let some = may_some list (import_name proto (part_text heap parts 0) (part_text heap parts 1)) e in
    ap (may_find list) (found_given V heap proto parts some.0 reads some.1 ∙ sym some.1) ∙ e

-- what may be done with the first part of an object may be done with its value
pub callee_agrees : (list : List Entry) (use_for : Use) (V : ℕ → Value) (from : List (Option Source)) (acts : List Act) (parts : List ℕ) → Agrees V from acts → may_use list use_for (callee_source from parts) ≡ true
    → may_use list use_for (value_source (sources_by [] acts) (item 0 (map V parts))) ≡ true
callee_agrees list use_for V from acts parts h e = go (slice_get parts 0) refl e
  where
    go : (p : Option ℕ) → slice_get parts 0 ≡ p → may_use list use_for (of_part (source_at from) p) ≡ true → may_use list use_for (value_source (sources_by [] acts) (item 0 (map V parts))) ≡ true
    go None is f = absurd cc
    go (Some id) is f = ap (λ (v : Value). may_use list use_for (value_source (sources_by [] acts) v)) (item_is V parts 0 id is) ∙ use_agrees list use_for V from acts h id f

-- ---- a new object

-- each act that finds something does so by this protocol
abbrev pub Finds : ℕ → List Act → Type 0
Finds proto acts = (k p : ℕ) (m n : Name) → slice_get acts k ≡ Some (Find p m n) → p ≡ proto

-- an object that comes of this: its value is the answer to an act that comes of it
abbrev pub ComesOf : List Act → Value → Source → Type 0
ComesOf acts v s = (t : PyType) × (k : ℕ) × (v ≡ Foreign t k) × (source_at (sources_by [] acts) k ≡ Some s)

source_is : (list : List Entry) (acts : List Act) (k : ℕ) (a : Act) (all : permits_all list [] acts ≡ true) (at : slice_get acts k ≡ Some a) → source_at (sources_by [] acts) k ≡ answer_source (placed list [] acts k a all at).front a
source_is list acts k a all at =
    let same : k ≡ 0 + k = omega arith in
    ap (λ (i : ℕ). source_at (sources_by [] acts) i) same ∙ (placed list [] acts k a all at).source

made_some : (x : Option Source) (s : Source) → made_of x ≡ Some s → (r : Source) × (x ≡ Some r)
made_some None s e = absurd cc
made_some (Some r) s e = (r, refl)

may_use_some : (list : List Entry) (use_for : Use) (x : Option Source) → may_use list use_for x ≡ true → (r : Source) × (x ≡ Some r)
may_use_some list use_for None e = absurd cc
may_use_some list use_for (Some r) e = (r, refl)

some_one : (x : Option Source) (r s : Source) → x ≡ Some r → x ≡ Some s → r ≡ s
some_one x r s e f = let two : Some r ≡ Some s = sym e ∙ f in cc

-- what a call made comes of what was called, though the act may be an earlier one that is the same
made_source : (list : List Entry) (use_for : Use) (V : ℕ → Value) (from : List (Option Source)) (acts : List Act) (parts : List ℕ) (a : Act) (k : ℕ) (s : Source) → permits_all list [] acts ≡ true → slice_get acts k ≡ Some a
    → ((front : List (Option Source)) → permits list front a ≡ may_use list use_for (value_source front (item 0 (map V parts))))
    → ((front : List (Option Source)) → answer_source front a ≡ made_of (value_source front (item 0 (map V parts))))
    → Agrees V from acts → made_of (callee_source from parts) ≡ Some s → source_at (sources_by [] acts) k ≡ Some s
made_source list use_for V from acts parts a k s all at asks answers h e =
    let r = made_some (callee_source from parts) s e in
    let p = part_there (source_at from) (slice_get parts 0) r.0 r.1 in
    let c = h p.0 r.0 p.2 in
    let x = placed list [] acts k a all at in
    let value : item 0 (map V parts) ≡ Foreign c.0 c.1 = item_is V parts 0 p.0 p.1 ∙ c.2 in
    let front_is : value_source x.front (item 0 (map V parts)) ≡ source_at x.front c.1 = ap (value_source x.front) value in
    let some = may_use_some list use_for (value_source x.front (item 0 (map V parts))) (sym (asks x.front) ∙ x.permitted) in
    let stays : source_at (sources_by [] acts) c.1 ≡ Some some.0 = x.stays c.1 some.0 (sym front_is ∙ some.1) in
    let same : some.0 ≡ r.0 = some_one (source_at (sources_by [] acts) c.1) some.0 r.0 stays c.3 in
    source_is list acts k a all at ∙ answers x.front ∙ ap made_of (some.1 ∙ ap (λ (y : Source). Some y) same ∙ sym r.1) ∙ e

new_source : (list : List Entry) (w : World) (V : ℕ → Value) (acts : List Act) (proto : ℕ) (heap : List Object) (from : List (Option Source)) (k : Kind) (parts : List ℕ) (v : Value) (s : Source) → permits_all list [] acts ≡ true → Finds proto acts
    → Agrees V from acts → Reads V heap → IsFrom w acts k v (origin k (map V parts)) → source_of proto heap from k parts ≡ Some s → ComesOf acts v s
new_source list w V acts proto heap from (kind.Global names) parts v s all finds h reads (t, n, p, is, at) e =
    let same : p ≡ proto = finds n p (Line names.first) (Line names.second) at in (
      t,
      n,
      is,
      source_is list acts n (Find p (Line names.first) (Line names.second)) all at
          ∙ ap (λ (q : ℕ). option_map itself (found_by q (line_text names.first) (line_text names.second))) same
          ∙ ap (option_map itself) (name_found proto (line_text names.first) (line_text names.second)) ∙ e,
    )
new_source list w V acts proto heap from kind.StackGlobal parts v s all finds h reads (t, n, p, is, at) e =
    let first : Name = Given (item 0 (map V parts)) in
    let second : Name = Given (item 1 (map V parts)) in
    let same : p ≡ proto = finds n p first second at in
    let name = itself_some (import_name proto (part_text heap parts 0) (part_text heap parts 1)) s e in (
      t,
      n,
      is,
      source_is list acts n (Find p first second) all at
          ∙ ap (λ (q : ℕ). option_map itself (found q first second)) same
          ∙ ap (option_map itself) (found_given V heap proto parts name.0 (reads_parts V heap parts reads) name.1 ∙ sym name.1) ∙ e,
    )
  where
    itself_some : (x : Option (List ℕ)) (s : Source) → option_map itself x ≡ Some s → (name : List ℕ) × (x ≡ Some name)
    itself_some None s e = absurd cc
    itself_some (Some name) s e = (name, refl)
new_source list w V acts proto heap from (kind.Ext m) parts v s all finds h reads (t, n, p, is, at) e = (t, n, is, source_is list acts n (Extension m) all at ∙ e)
new_source list w V acts proto heap from (kind.PersistentLine line) parts v s all finds h reads (t, n, p, is, at) e = (t, n, is, source_is list acts n (Persist (Line line)) all at ∙ e)
new_source list w V acts proto heap from kind.Persistent parts v s all finds h reads (t, n, p, is, at) e = (t, n, is, source_is list acts n (Persist (Given (item 0 (map V parts)))) all at ∙ e)
new_source list w V acts proto heap from (kind.Buffer m) parts v s all finds h reads (t, n, p, is, at) e = (t, n, is, source_is list acts n (NextBuffer m) all at ∙ e)
new_source list w V acts proto heap from kind.Call parts v s all finds h reads (t, n, p, is, at) e =
    (t, n, is, made_source list use_of.Call V from acts parts (Call (item 0 (map V parts)) (item 1 (map V parts))) n s all at (λ front. refl) (λ front. refl) h e)
new_source list w V acts proto heap from kind.New parts v s all finds h reads (t, n, p, is, at) e =
    (t, n, is, made_source list use_of.New V from acts parts (New (item 0 (map V parts)) (item 1 (map V parts))) n s all at (λ front. refl) (λ front. refl) h e)
new_source list w V acts proto heap from kind.NewEx parts v s all finds h reads (t, n, p, is, at) e =
    (t, n, is, made_source list use_of.New V from acts parts (NewEx (item 0 (map V parts)) (item 1 (map V parts)) (item 2 (map V parts))) n s all at (λ front. refl) (λ front. refl) h e)
new_source list w V acts proto heap from kind.Obj parts v s all finds h reads (t, n, p, is, at) e =
    (t, n, is, made_source list use_of.Call V from acts parts (Instance (Some (item 0 (map V parts))) (drop 1 (map V parts))) n s all at (λ front. refl) (λ front. refl) h e)
new_source list w V acts proto heap from _ parts v s all finds h reads is e = absurd cc

-- ---- more objects

source_last : (from : List (Option Source)) (x : Option Source) (id : ℕ) (s : Source) → source_at (from ++ x ∷ []) id ≡ Some s → (source_at from id ≡ Some s) ⊎ ((id ≡ length from) × (x ≡ Some s))
source_last [] x zero s e = inr (refl, e)
source_last [] x (suc id) s e = absurd cc
source_last (y ∷ from) x zero s e = inl e
source_last (y ∷ from) x (suc id) s e = elim (source_last from x id s e) [
  | inl old ↦ inl old
  | inr new ↦ inr (ap suc new.0, new.1)
]

pub more_agrees : (list : List Entry) (w : World) (V : ℕ → Value) (acts : List Act) (proto : ℕ) (heap : List Object) → permits_all list [] acts ≡ true → Finds proto acts → Knows w V acts heap → (from : List (Option Source)) (objects : List Object)
    → Agrees V from acts → ((j : ℕ) (o : Object) → slice_get objects j ≡ Some o → slice_get heap (length from + j) ≡ Some o) → Agrees V (with_more proto heap from objects) acts
more_agrees list w V acts proto heap all finds knows from [] h there = h
more_agrees list w V acts proto heap all finds knows from (o ∷ objects) h there =
    let x : Option Source = source_of proto heap from o.kind o.parts in
    let zero_more : length from + 0 ≡ length from = omega arith in
    let here : slice_get heap (length from) ≡ Some o = ap (slice_get heap) (sym zero_more) ∙ there 0 o refl in
    let next : Agrees V (from ++ x ∷ []) acts = λ id s e. elim (source_last from x id s e) [
      | inl old ↦ h id s old
      | inr new ↦ subst (λ (i : ℕ). ComesOf acts (V i) s) (sym new.0) (new_source list w V acts proto heap from o.kind o.parts (V (length from)) s all finds h (knows_reads w V acts heap knows) (knows (length from) o here) new.1)
    ] in
    more_agrees list w V acts proto heap all finds knows (from ++ x ∷ []) objects next
    (λ j p e. ap (slice_get heap) (sym (one_longer from x j)) ∙ there (suc j) p e)

no_drop : {A : Type 0} (xs : List A) → drop 0 xs ≡ xs
no_drop [] = refl
no_drop (x ∷ xs) = refl

pub get_drop : (n : ℕ) (heap : List Object) (j : ℕ) (o : Object) → slice_get (drop n heap) j ≡ Some o → slice_get heap (n + j) ≡ Some o
get_drop zero heap j o e =
    let same : 0 + j ≡ j = omega arith in
    ap (slice_get heap) same ∙ ap (λ (l : List Object). slice_get l j) (sym (no_drop heap)) ∙ e
get_drop (suc n) [] j o e = absurd cc
get_drop (suc n) (x ∷ heap) j o e =
    let next : suc n + j ≡ suc (n + j) = omega arith in
    ap (slice_get (x ∷ heap)) next ∙ get_drop n heap j o e
