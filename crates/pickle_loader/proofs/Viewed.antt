-- The unpickler follows what is put into a view.
use Rattle.std.proofs.Common.{◌≡◌, ℕ, ◌-◌, ◌<◌, Bool, true, false, cond, List, [], ◌∷◌, ◌++◌, length, map, Option, Some, None, refl, sym, ap, subst, ◌∙◌, inl, inr, arith, take_all}
use Rattle.std.proofs.lemmas.Bool.{ltb-true, le-leb}
use Rattle.std.proofs.lemmas.List.{append-nil, length-map, length-drop, length-take-le}
use Rattle.std.specs.Prelude.{◌%◌, ◌/◌, ◌==◌, ◌&&◌, ◌||◌, not, nat_lt, take, slice_get, if◌then◌else◌}
use Rattle.std.specs.Option.{option_map_or}
use Rattle.pickle_ops.specs.declared.opcode.Opcode.{Opcode}
use Rattle.pickle_ops.specs.declared.opcode.Opcode.TheVariants as op
use Rattle.pickle_ops.specs.declared.kind.Kind.{Kind}
use Rattle.pickle_ops.specs.declared.kind.Kind.TheVariants as kind
use Rattle.pickle_ops.specs.declared.row.Row.TheVariants as row
use Rattle.pickle_ops.specs.declared.row.Filling.{Filling}
use Rattle.pickle_ops.specs.declared.row.Filling.TheVariants as filling
use Rattle.pickle_ops.specs.Object.{Object}
use Rattle.pickle_ops.specs.Spelling.{Operation}
use Rattle.pickle_ops.specs.Row.{values_of, row_of, row_of_opcode}
use Rattle.pickle_machine.specs.declared.refusal.Refusal.TheVariants as refusal
use Rattle.pickle_machine.specs.declared.loader.Fill.{Fill as Goes}
use Rattle.pickle_machine.specs.State.{State}
use Rattle.pickle_machine.specs.Move.{deep, under, without, cut, last_of}
use Rattle.pickle_machine.specs.Loader.{views, view_at, opaque_at, parts_in, is_odd, fills as puts, fill_when, fill_of, ends_odd}
use Rattle.pickle_calls.specs.declared.event.Event.TheVariants as event
use Rattle.pickle_loader.specs.Environment.{Reply, Raises, Answers, PyMemoryView, Value, Own, Foreign, Act, Fill, Unpickler}
use Rattle.pickle_loader.specs.Unpickler.{Step, Ran, Raised, item, answered, pop, on_top, pop_mark, fill, fills, fill_pairs, then_raises}
use Rattle.pickle_loader.specs.Dispatch.{dispatch, load_op}
use Rattle.pickle_loader.specs.Listed.{listed_of, acts_listed, taken, objects_in}
use Rattle.pickle_loader.specs.Values.{origin, IsFrom, Knows}
use Rattle.pickle_loader.specs.Beyond.{dropped, FillsAreFollowed}
use Rattle.pickle_loader.proofs.Images.{image, pop_image, on_top_image, mark_image}
use Rattle.pickle_loader.proofs.Pushes.{IsRead, view_reads, Good, knows_more, listed_one}
use Rattle.pickle_loader.proofs.Methods.{Here, unpickler, raised_good}
use Rattle.pickle_loader.proofs.Fills.{Splits, taken_is, split_without, split_cut, deep_without}
use Rattle.pickle_loader.proofs.Beyond.{same_image, follows_by}

-- ---- a view

fill_facts : (b c v q : Bool) (x y : Goes) → cond (b && (c && (v || q))) (Some x) None ≡ Some y → q ≡ false → (c ≡ true) × (v ≡ true) × (x ≡ y)
fill_facts true true true q x y e n = let same : x ≡ y = cc in (refl, refl, same)
fill_facts true true false q x y e n = let no : None ≡ Some y = ap (λ (z : Bool). cond z (Some x) None) (sym n) ∙ e in absurd cc
fill_facts true false v q x y e n = absurd cc
fill_facts false c v q x y e n = absurd cc

view_kind : (heap : List Object) (k : Kind) (parts : List ℕ) → views heap k parts ≡ true → k ≡ kind.ReadOnly
view_kind heap kind.ReadOnly parts e = refl
view_kind heap _ parts e = absurd cc

view_in : (heap : List Object) (g : Option Object) → option_map_or (λ (o : Object). views heap o.kind o.parts) g false ≡ true → (o : Object) × (g ≡ Some o) × (o.kind ≡ kind.ReadOnly)
view_in heap None e = absurd cc
view_in heap (Some o) e = (o, refl, view_kind heap o.kind o.parts e)

-- its value can only be read
view_read : (h : Here) (id : ℕ) → view_at h.s.heap id ≡ true → IsRead h.w h.acts (h.V id)
view_read h id e =
    let v = view_in h.s.heap (slice_get h.s.heap id) e in
    view_reads h.w h.acts (item 0 (map h.V v.0.parts)) (h.V id) (subst (λ (k : Kind). IsFrom h.w h.acts k (h.V id) (origin k (map h.V v.0.parts))) v.2 (h.knows id v.0 v.1))

-- ---- what is put in

Puts : Here → State → Filling → Value → List Value → Step → Type 0
Puts h t f v vs x = Good h.V h.w h.s.heap h.acts t (Fill f v vs ∷ []) h.proto x

own_raises : (h : Here) (t : State) (f : Filling) (n : ℕ) (vs : List Value) → Puts h t f (Own PyMemoryView n) vs (fill h.w f (Own PyMemoryView n) vs (image h.V t h.proto h.acts))
unfolding Puts
own_raises h t filling.Append n vs = raised_good h.V h.w h.s.heap h.acts t _ h.proto h.acts refl
own_raises h t filling.SetItem n vs = raised_good h.V h.w h.s.heap h.acts t _ h.proto h.acts refl
own_raises h t filling.Add n vs = raised_good h.V h.w h.s.heap h.acts t _ h.proto h.acts refl
own_raises h t filling.Build n vs = raised_good h.V h.w h.s.heap h.acts t _ h.proto h.acts refl

listed_good : (h : Here) (r : Reply) (t : State) (a : Act) → t.heap ≡ h.s.heap → listed_of (a ∷ []) ≡ a ∷ [] → Good h.V h.w h.s.heap h.acts t (a ∷ []) h.proto (answered r a (image h.V t h.proto h.acts) (λ v q. Ran q))
listed_good h Raises t a e is = ([], append-nil (listed_of (h.acts ++ a ∷ [])) ∙ listed_one h.acts a ∙ ap (λ (l : List Act). listed_of h.acts ++ l) is)
listed_good h (Answers x) t a e is =
    λ foretold. (refl, knows_more h.w h.V h.acts (a ∷ []) t.heap (subst (λ (l : List Object). Knows h.w h.V h.acts l) (sym e) h.knows), listed_one h.acts a ∙ ap (λ (l : List Act). listed_of h.acts ++ l) is)

put_good : (h : Here) (t : State) (f : Filling) (v : Value) (vs : List Value) → t.heap ≡ h.s.heap → IsRead h.w h.acts v → Puts h t f v vs (fill h.w f v vs (image h.V t h.proto h.acts))
unfolding Puts
put_good h t f v vs same (inl (bytes, is)) =
    subst (λ (x : Value). Puts h t f x vs (fill h.w f x vs (image h.V t h.proto h.acts))) (sym is) (raised_good h.V h.w h.s.heap h.acts t _ h.proto h.acts refl)
put_good h t f v vs same (inr (inl (n, is))) = subst (λ (x : Value). Puts h t f x vs (fill h.w f x vs (image h.V t h.proto h.acts))) (sym is) (own_raises h t f n vs)
put_good h t f v vs same (inr (inr (p, n, is, memory, only))) =
    subst (λ (x : Value). Puts h t f x vs (fill h.w f x vs (image h.V t h.proto h.acts))) (sym is) (listed_good h (h.w.reply h.acts (Fill f (Foreign p n) vs)) t (Fill f (Foreign p n) vs) same refl)

puts_good : (h : Here) (t : State) (f : Filling) (v : Value) (items : List ℕ) → 0 < length items → t.heap ≡ h.s.heap → IsRead h.w h.acts v → Puts h t f v (map h.V items) (fills h.w f v (map h.V items) (image h.V t h.proto h.acts))
puts_good h t f v [] some same read = absurd (omega (arith, some))
puts_good h t f v (x ∷ items) some same read = put_good h t f v (map h.V (x ∷ items)) same read

-- what is not odd goes in whole
pub whole_in : (f : Filling) (n : ℕ) → is_odd f n ≡ false → objects_in f (parts_in f n) ≡ n
whole_in filling.Append n e = refl
whole_in filling.Add n e = refl
whole_in filling.Build n e = refl
whole_in filling.SetItem n e = omega (arith, even_half n (no_odd_half (n % 2 == 0) e))
  where
    no_odd_half : (b : Bool) → not b ≡ false → b ≡ true
    no_odd_half true e = refl
    no_odd_half false e = absurd cc

    even_half : (n : ℕ) → (n % 2 == 0) ≡ true → n % 2 ≡ 0
    even_half n e = grind arith

-- the acts of the event
event_acts : (h : Here) (t : State) (f : Filling) (n id : ℕ) (items : List ℕ) → Splits h.s t items → nat_lt 0 n ≡ true → objects_in f n ≡ length items → acts_listed h.V h.proto h.s t (Some (event.Filled f n id)) ≡ Fill f (h.V id) (map h.V items) ∷ []
event_acts h t f n id items split some whole =
    ap (λ (b : Bool). if b then Fill f (h.V id) (map h.V (take (objects_in f n) (taken h.s t))) ∷ [] else []) some
    ∙ ap (λ (l : List ℕ). Fill f (h.V id) (map h.V (take (objects_in f n) l)) ∷ []) (taken_is h.s t items split)
    ∙ ap (λ (l : List ℕ). Fill f (h.V id) (map h.V l) ∷ []) (take_all (objects_in f n) items (omega (arith, whole)))

-- ---- rows

Fills : Here → State → Goes → Step → Type 0
Fills h t g x = Good h.V h.w h.s.heap h.acts t (acts_listed h.V h.proto h.s t (Some (event.Filled g.filling g.count g.target))) h.proto x

pub some_of : (b : Bool) (x : Option Goes) (y : Goes) → cond b x None ≡ Some y → (b ≡ true) × (x ≡ Some y)
some_of true x y e = (refl, e)
some_of false x y e = absurd cc

change_fills : (h : Here) (f : Filling) (g : Goes) → is_odd f (values_of f) ≡ false → 0 < values_of f → fill_of (row.Change f) h.s ≡ Some g
    → Fills h (without (values_of f) h.s) g (pop (values_of f) (unpickler h) (λ vs q. on_top q (λ target. fills h.w f target vs q)))
unfolding Fills Puts
change_fills h f g even values e =
    let n : ℕ = values_of f in
    let t : State = without n h.s in
    let items : List ℕ = last_of n h.s in
    let id : ℕ = deep n h.s.top in
    let here = some_of (nat_lt n (length h.s.top)) (fill_when f n id h.s.heap) g e in
    let below : n < length h.s.top = ltb-true n (length h.s.top) here.0 in
    let facts = fill_facts (puts f) (nat_lt 0 (parts_in f n)) (view_at h.s.heap id) (is_odd f n && opaque_at h.s.heap id) (record { filling = f; count = parts_in f n; target = id }) g here.1 (ap (λ (b : Bool). b && opaque_at h.s.heap id) even) in
    let size : length t.top ≡ length h.s.top - n = length-take-le (length h.s.top - n) h.s.top (omega arith) in
    let count : length items ≡ n = omega (arith, length-drop (length h.s.top - n) h.s.top, below) in
    let at : deep 0 t.top ≡ id = deep_without n h.s.top below in
    let read : IsRead h.w h.acts (h.V (deep 0 t.top)) = subst (λ (i : ℕ). IsRead h.w h.acts (h.V i)) (sym at) (view_read h id facts.1) in
    let good = puts_good h t f (h.V (deep 0 t.top)) items (omega (arith, count, values)) refl read in
    let acts : Fill f (h.V (deep 0 t.top)) (map h.V items) ∷ [] ≡ acts_listed h.V h.proto h.s t (Some (event.Filled g.filling g.count g.target)) =
    ap (λ (i : ℕ). Fill f (h.V i) (map h.V items) ∷ []) at
    ∙ sym (event_acts h t f (parts_in f n) id items (split_without n h.s) facts.0 (whole_in f n even ∙ sym count))
    ∙ ap (λ (x : Goes). acts_listed h.V h.proto h.s t (Some (event.Filled x.filling x.count x.target))) facts.2 in
    subst (λ (l : List Act). Good h.V h.w h.s.heap h.acts t l h.proto (pop n (unpickler h) (λ vs q. on_top q (λ target. fills h.w f target vs q)))) acts
    (subst (λ (x : Step). Good h.V h.w h.s.heap h.acts t (Fill f (h.V (deep 0 t.top)) (map h.V items) ∷ []) h.proto x) (sym (pop_image h.V h.s h.proto h.acts n (λ vs q. on_top q (λ target. fills h.w f target vs q)) (le-leb n (length h.s.top) (omega (arith, below)))))
    (subst (λ (x : Step). Good h.V h.w h.s.heap h.acts t (Fill f (h.V (deep 0 t.top)) (map h.V items) ∷ []) h.proto x) (sym (on_top_image h.V t h.proto h.acts (λ target. fills h.w f target (map h.V items) (image h.V t h.proto h.acts)) (le-leb 1 (length t.top) (omega (arith, size, below))))) good))

both_hold : (b c : Bool) → (b && c) ≡ true → (b ≡ true) × (c ≡ true)
both_hold true c e = (refl, e)
both_hold false c e = absurd cc

no_odd : (b : Bool) → (if b then Some refusal.OddItems else None) ≡ None → b ≡ false
no_odd true e = absurd cc
no_odd false e = refl

cut_fills : (h : Here) (f : Filling) (g : Goes) (go : List Value → Value → Unpickler → Step) → (nat_lt 0 (parts_in f (length h.s.top)) ≡ true → 0 < length h.s.top)
    → (is_odd f (length h.s.top) ≡ false → (v : Value) (q : Unpickler) → go (map h.V h.s.top) v q ≡ fills h.w f v (map h.V h.s.top) q)
    → fill_of (row.CutChange f) h.s ≡ Some g → ends_odd (row.CutChange f) h.s ≡ None → Fills h (cut h.s) g (pop_mark (unpickler h) (λ items q. on_top q (λ target. go items target q)))
unfolding Fills Puts
cut_fills h f g go some right e odd =
    let n : ℕ = length h.s.top in
    let t : State = cut h.s in
    let id : ℕ = deep 0 (under h.s.marked) in
    let here = some_of (nat_lt 0 (length h.s.marked) && nat_lt 0 (length (under h.s.marked))) (fill_when f n id h.s.heap) g e in
    let there = both_hold (nat_lt 0 (length h.s.marked)) (nat_lt 0 (length (under h.s.marked))) here.0 in
    let even : is_odd f n ≡ false = no_odd (is_odd f n) odd in
    let facts = fill_facts (puts f) (nat_lt 0 (parts_in f n)) (view_at h.s.heap id) (is_odd f n && opaque_at h.s.heap id) (record { filling = f; count = parts_in f n; target = id }) g here.1 (ap (λ (b : Bool). b && opaque_at h.s.heap id) even) in
    let good = puts_good h t f (h.V id) h.s.top (some facts.0) refl (view_read h id facts.1) in
    let acts : Fill f (h.V id) (map h.V h.s.top) ∷ [] ≡ acts_listed h.V h.proto h.s t (Some (event.Filled g.filling g.count g.target)) =
    sym (event_acts h t f (parts_in f n) id h.s.top (split_cut h.s there.0) facts.0 (whole_in f n even))
    ∙ ap (λ (x : Goes). acts_listed h.V h.proto h.s t (Some (event.Filled x.filling x.count x.target))) facts.2 in
    let Result : Step → Type 0 = λ (x : Step). Good h.V h.w h.s.heap h.acts t (Fill f (h.V id) (map h.V h.s.top) ∷ []) h.proto x in
    subst (λ (l : List Act). Good h.V h.w h.s.heap h.acts t l h.proto (pop_mark (unpickler h) (λ items q. on_top q (λ target. go items target q)))) acts
    (subst Result (sym (mark_image h.V h.s h.proto h.acts (λ items q. on_top q (λ target. go items target q)) there.0))
    (subst Result (sym (on_top_image h.V t h.proto h.acts (λ target. go (map h.V h.s.top) target (image h.V t h.proto h.acts)) (le-leb 1 (length t.top) (omega (arith, ltb-true 0 (length (under h.s.marked)) there.1)))))
    (subst Result (sym (right even (h.V id) (image h.V t h.proto h.acts))) good)))

-- ---- opcodes

pairs_fill : (h : Here) → is_odd filling.SetItem (length h.s.top) ≡ false → (v : Value) (q : Unpickler) → fill_pairs h.w v (map h.V h.s.top) q ≡ fills h.w filling.SetItem v (map h.V h.s.top) q
pairs_fill h even v q =
    let is : (length h.s.top % 2 == 0) ≡ true = not_false (length h.s.top % 2 == 0) even in
    ap (λ (n : ℕ). if n % 2 == 0 then fills h.w filling.SetItem v (map h.V h.s.top) q else then_raises (fills h.w filling.SetItem v (take (length (map h.V h.s.top) - 1) (map h.V h.s.top)) q)) (length-map h.s.top h.V)
    ∙ ap (λ (b : Bool). if b then fills h.w filling.SetItem v (map h.V h.s.top) q else then_raises (fills h.w filling.SetItem v (take (length (map h.V h.s.top) - 1) (map h.V h.s.top)) q)) is
  where
    not_false : (b : Bool) → not b ≡ false → b ≡ true
    not_false true e = refl
    not_false false e = absurd cc

opcode_fills : (h : Here) (o : Opcode) (arg : List ℕ) (g : Goes) → fill_of (row_of_opcode o arg) h.s ≡ Some g → ends_odd (row_of_opcode o arg) h.s ≡ None → Fills h (dropped (row_of_opcode o arg) h.s) g (dispatch h.w o arg (unpickler h))
opcode_fills h op.Append arg g e odd = change_fills h filling.Append g refl (omega arith) e
opcode_fills h op.SetItem arg g e odd = change_fills h filling.SetItem g refl (omega arith) e
opcode_fills h op.Appends arg g e odd = cut_fills h filling.Append g (λ items target q. fills h.w filling.Append target items q) (λ some. ltb-true 0 (length h.s.top) some) (λ even v q. refl) e odd
opcode_fills h op.AddItems arg g e odd = cut_fills h filling.Add g (λ items target q. fills h.w filling.Add target items q) (λ some. ltb-true 0 (length h.s.top) some) (λ even v q. refl) e odd
opcode_fills h op.SetItems arg g e odd = cut_fills h filling.SetItem g (λ items target q. fill_pairs h.w target items q) (λ some. omega (arith, ltb-true 0 (length h.s.top / 2) some)) (pairs_fill h) e odd
opcode_fills h op.Build arg g e odd = absurd (no_build (nat_lt 1 (length h.s.top)) g e)
  where
    no_build : (b : Bool) (g : Goes) → cond b None None ≡ Some g → ⊥
    no_build true g e = absurd cc
    no_build false g e = absurd cc
opcode_fills h _ arg g e odd = absurd cc

op_fills : (h : Here) (o : Operation) (g : Goes) (b : Bool) → Fills h (dropped (row_of o) h.s) g (dispatch h.w o.opcode o.arg (unpickler h)) → Fills h (dropped (row_of o) h.s) g (if b then Raised h.acts else dispatch h.w o.opcode o.arg (unpickler h))
unfolding Fills
op_fills h o g true good = raised_good h.V h.w h.s.heap h.acts (dropped (row_of o) h.s) _ h.proto h.acts refl
op_fills h o g false good = good

pub fills_are_followed : FillsAreFollowed
unfolding Fills
fills_are_followed w V s u o g same put odd maps =
    let h : Here = record { V = V; w = w; s = s; proto = u.proto; acts = u.acts; place = 0; knows = same.objects } in
    let t : State = dropped (row_of o) s in
    let new : List Act = acts_listed V u.proto s t (Some (event.Filled g.filling g.count g.target)) in
    let good : Good V w s.heap u.acts t new u.proto (load_op w o (image V s u.proto u.acts)) = op_fills h o g (w.fails (unpickler h) o) (opcode_fills h o.opcode o.arg g put odd) in
    follows_by w V s t u.acts new u.proto (load_op w o u) maps
    (subst (λ (x : Unpickler). Good V w s.heap u.acts t new u.proto (load_op w o x)) (sym (same_image w V s u same)) good)
