-- What READONLY_BUFFER comes to.
use Rattle.std.proofs.Common.{◌≡◌, ℕ, zero, suc, ◌-◌, ◌<◌, Bool, true, false, cond, List, [], ◌∷◌, ◌++◌, length, map, take, get_or, None, refl, sym, ap, subst, ◌∙◌, inl, inr, arith, length-append}
use Rattle.std.specs.Prelude.{nat_le, ◌||◌, if◌then◌else◌}
use Rattle.std.proofs.lemmas.Bool.{leb-true}
use Rattle.std.proofs.lemmas.List.{length-map, map-append, append-nil, take-map}
use Rattle.pickle_ops.specs.declared.kind.Kind.{Kind}
use Rattle.pickle_ops.specs.declared.kind.Kind.TheVariants as kind
use Rattle.pickle_ops.specs.declared.class.Class.{Class}
use Rattle.pickle_ops.specs.declared.class.Class.TheVariants as class
use Rattle.pickle_ops.specs.declared.class.Demand.TheVariants as demand
use Rattle.pickle_ops.specs.declared.row.Row.TheVariants as row
use Rattle.pickle_ops.specs.Object.{Object}
use Rattle.pickle_ops.specs.Class.{class_meets}
use Rattle.pickle_ops.specs.Kind.{class_of, meets}
use Rattle.pickle_machine.specs.declared.refusal.Refusal.TheVariants as refusal
use Rattle.pickle_machine.specs.State.{State}
use Rattle.pickle_machine.specs.Move.{deep, last_of, without, push, object_meets, if_viewable}
use Rattle.pickle_calls.specs.Event.{made_event}
use Rattle.pickle_calls.proofs.Steps.{is_there}
use Rattle.pickle_loader.specs.Environment.{PyType, PyMemoryView, Value, Own, Foreign, Act, Make, View, Reply, Raises, Answers, World}
use Rattle.pickle_loader.specs.Unpickler.{Step, Ran, Raised, item, answered, replaced, has_memory, viewed, load_readonly_buffer}
use Rattle.pickle_loader.specs.Listed.{listed_of, acts_listed}
use Rattle.pickle_loader.proofs.Images.{image, on_top_image, last_image}
use Rattle.pickle_loader.specs.Values.{IsViewOf}
use Rattle.pickle_loader.proofs.Pushes.{IsRead, StandsAs, stands_as, knows_more, Good, top_value, knows_pushed, top_appended, listed_pushed}
use Rattle.pickle_loader.proofs.Methods.{Here, unpickler, RowGood, passes, quiet, raised_good, stays_good, nothing_new}

-- the state after it, where the top can only be read already, and where not
viewed_state : Here → Bool → State
viewed_state h b = cond b h.s (push kind.ReadOnly (last_of 1 h.s) (without 1 h.s))

ViewGood : Here → Bool → Step → Type 0
ViewGood h b x = Good h.V h.w h.s.heap h.acts (viewed_state h b) (acts_listed h.V h.proto h.s (viewed_state h b) (made_event (viewed_state h b).heap (length h.s.heap))) h.proto x

-- it stays
stays_as : (h : Here) (acts more : List Act) → acts ≡ h.acts ++ more → listed_of acts ≡ listed_of h.acts → ViewGood h true (Ran (image h.V h.s h.proto acts))
unfolding ViewGood viewed_state
stays_as h acts more is e = stays_good h h.s h.proto (image h.V h.s h.proto acts) more refl refl is e

kept_by : (h : Here) (t : PyType) (n : ℕ) (r : Reply) → ViewGood h true (answered r (View (Foreign t n)) (unpickler h) (λ v q. replaced true (length h.acts) q))
unfolding ViewGood viewed_state
kept_by h t n Raises = raised_good h.V h.w h.s.heap h.acts h.s _ h.proto (h.acts ++ View (Foreign t n) ∷ []) (quiet h.acts (View (Foreign t n)) refl)
kept_by h t n (Answers x) = stays_as h (h.acts ++ View (Foreign t n) ∷ []) (View (Foreign t n) ∷ []) refl (quiet h.acts (View (Foreign t n)) refl)

kept_foreign : (h : Here) (t : PyType) (n : ℕ) (m b : Bool) → b ≡ true
    → ViewGood h true (if m then answered (h.w.reply h.acts (View (Foreign t n))) (View (Foreign t n)) (unpickler h) (λ v q. replaced b (length h.acts) q) else Raised h.acts)
unfolding ViewGood viewed_state
kept_foreign h t n false b e = raised_good h.V h.w h.s.heap h.acts h.s _ h.proto h.acts refl
kept_foreign h t n true true e = kept_by h t n (h.w.reply h.acts (View (Foreign t n)))
kept_foreign h t n true false e = absurd cc

kept : (h : Here) (v : Value) → IsRead h.w h.acts v → ViewGood h true (viewed h.w v (unpickler h))
kept h v read = elim read [
  | inl (bytes, is) ↦ subst (λ (y : Value). ViewGood h true (viewed h.w y (unpickler h))) (sym is) (stays_as h h.acts [] (sym (append-nil h.acts)) refl)
  | inr other ↦ (elim other [
    | inl (n, is) ↦ subst (λ (y : Value). ViewGood h true (viewed h.w y (unpickler h))) (sym is) (stays_as h h.acts [] (sym (append-nil h.acts)) refl)
    | inr (t, n, is, memory, only) ↦ subst (λ (y : Value). ViewGood h true (viewed h.w y (unpickler h))) (sym is) (kept_foreign h t n (has_memory t) (h.w.readonly h.acts (Foreign t n)) only)
  ])
]

-- ---- a view is made

-- the top is exchanged
exchanged : (h : Here) (v : Value) (more : List Act) → listed_of (h.acts ++ more) ≡ listed_of h.acts → IsViewOf h.w (h.acts ++ more) (h.V (deep 0 h.s.top)) v → 0 < length h.s.top → (vs : List Value) → vs ≡ map h.V (take (length h.s.top - 1) h.s.top) ++ v ∷ []
    → ViewGood h false (Ran (record (image h.V h.s h.proto (h.acts ++ more)) { stack = vs }))
unfolding ViewGood viewed_state
exchanged h v more same read top vs e foretold =
    let acts : List Act = h.acts ++ more in
    let u : State = without 1 h.s in
    let x : Object = record { kind = kind.ReadOnly; parts = last_of 1 h.s; changes = [] } in
    let is : h.V (length h.s.heap) ≡ v = foretold (omega (arith, length-append h.s.heap (x ∷ []))) ∙ ap top_value e ∙ top_appended (map h.V u.top) v in
    let stack : vs ≡ map h.V (u.top ++ length h.s.heap ∷ []) = e ∙ ap (λ (y : Value). map h.V u.top ++ y ∷ []) (sym is) ∙ sym (map-append h.V u.top (length h.s.heap ∷ [])) in (
      ap (λ (l : List Value). record (image h.V h.s h.proto acts) { stack = l }) stack,
      knows_pushed h.w h.V acts h.s.heap x (knows_more h.w h.V h.acts more h.s.heap h.knows) (subst (λ (y : Value). IsViewOf h.w acts (item 0 (map h.V (last_of 1 h.s))) y) (sym is) (subst (λ (y : Value). IsViewOf h.w acts y v) (sym (last_image h.V h.s top)) read)),
      same ∙ nothing_new _ _ (listed_pushed h.V h.proto h.s (push kind.ReadOnly (last_of 1 h.s) u) h.s.heap x refl),
    )

-- the others are as they were
others : (h : Here) → take (length (map h.V h.s.top) - 1) (map h.V h.s.top) ≡ map h.V (take (length h.s.top - 1) h.s.top)
others h = ap (λ (m : ℕ). take (m - 1) (map h.V h.s.top)) (length-map h.s.top h.V) ∙ take-map h.V (length h.s.top - 1) h.s.top

new_view : (h : Here) (more : List Act) (n : ℕ) → listed_of (h.acts ++ more) ≡ listed_of h.acts → 0 < length h.s.top → ViewGood h false (replaced false n (image h.V h.s h.proto (h.acts ++ more)))
new_view h more n same top =
    exchanged h (Own PyMemoryView n) more same (inl (n, refl)) top _ (ap (λ (l : List Value). l ++ Own PyMemoryView n ∷ []) (others h))

split_top : (V : ℕ → Value) (xs : List ℕ) → 0 < length xs → map V xs ≡ map V (take (length xs - 1) xs) ++ V (deep 0 xs) ∷ []
split_top V xs h = go (length xs - 1) xs (omega (arith, h)) ∙ ap (λ (m : ℕ). map V (take (length xs - 1) xs) ++ V (get_or xs m 0) ∷ []) (omega (arith, h))
  where
    step : (V : ℕ → Value) (x : ℕ) (l r : List Value) → l ≡ r → V x ∷ l ≡ V x ∷ r
    step V x l r e = ap (λ (l : List Value). V x ∷ l) e

    go : (m : ℕ) (xs : List ℕ) → length xs ≡ suc m → map V xs ≡ map V (take m xs) ++ V (get_or xs m 0) ∷ []
    go m [] e = absurd (omega (arith, e))
    go zero (x ∷ []) e = refl
    go zero (x ∷ y ∷ xs) e = absurd (omega (arith, e))
    go (suc m) (x ∷ xs) e = step V x _ _ (go m xs (omega (arith, e)))

by_reading : (h : Here) (t : PyType) (n : ℕ) (b : Bool) → h.w.readonly h.acts (Foreign t n) ≡ b → has_memory t ≡ true → h.V (deep 0 h.s.top) ≡ Foreign t n → 0 < length h.s.top → (r : Reply)
    → ViewGood h false (answered r (View (Foreign t n)) (unpickler h) (λ v q. replaced b (length h.acts) q))
unfolding ViewGood
by_reading h t n b only memory is top Raises = raised_good h.V h.w h.s.heap h.acts (viewed_state h false) _ h.proto (h.acts ++ View (Foreign t n) ∷ []) (quiet h.acts (View (Foreign t n)) refl)
by_reading h t n true only memory is top (Answers x) =
    exchanged h (Foreign t n) (View (Foreign t n) ∷ []) (quiet h.acts (View (Foreign t n)) refl) (inr (t, n, refl, is, memory, (h.acts, [], refl, only))) top (map h.V h.s.top)
    (split_top h.V h.s.top top ∙ ap (λ (v : Value). map h.V (take (length h.s.top - 1) h.s.top) ++ v ∷ []) is)
by_reading h t n false only memory is top (Answers x) = new_view h (View (Foreign t n) ∷ []) (length h.acts) (quiet h.acts (View (Foreign t n)) refl) top

by_memory : (h : Here) (t : PyType) (n : ℕ) (m : Bool) → has_memory t ≡ m → h.V (deep 0 h.s.top) ≡ Foreign t n → 0 < length h.s.top
    → ViewGood h false (if m then answered (h.w.reply h.acts (View (Foreign t n))) (View (Foreign t n)) (unpickler h) (λ v q. replaced (h.w.readonly h.acts (Foreign t n)) (length h.acts) q) else Raised h.acts)
unfolding ViewGood
by_memory h t n true memory is top = by_reading h t n (h.w.readonly h.acts (Foreign t n)) refl memory is top (h.w.reply h.acts (View (Foreign t n)))
by_memory h t n false memory is top = raised_good h.V h.w h.s.heap h.acts (viewed_state h false) _ h.proto h.acts refl

seen : (h : Here) (c : Class) → 0 < length h.s.top → class_meets demand.Writable c ≡ true → StandsAs h.w h.acts c (h.V (deep 0 h.s.top)) → ViewGood h false (viewed h.w (h.V (deep 0 h.s.top)) (unpickler h))
seen h class.Opaque top m (t, n, is) =
    subst (λ (y : Value). ViewGood h false (viewed h.w y (unpickler h))) (sym is) (by_memory h t n (has_memory t) refl is top)
seen h class.ByteArray top m (n, is) =
    subst (λ (y : Value). ViewGood h false (viewed h.w y (unpickler h))) (sym is) (new_view h (Make PyMemoryView [] ∷ []) (length h.acts) (quiet h.acts (Make PyMemoryView []) refl) top)
seen h _ top m stands = absurd cc

read_class : (w : World) (acts : List Act) (c : Class) (v : Value) → class_meets demand.ReadOnly c ≡ true → StandsAs w acts c v → IsRead w acts v
read_class w acts class.ReadOnly v m stands = stands
read_class w acts _ v m stands = absurd cc

one_of : (a b : Bool) → (a || b) ≡ true → a ≡ false → b ≡ true
one_of true b e f = absurd cc
one_of false b e f = e

view_by : (h : Here) (b : Bool) → 0 < length h.s.top → object_meets demand.ReadOnly h.s (deep 0 h.s.top) ≡ b → (object_meets demand.ReadOnly h.s (deep 0 h.s.top) || object_meets demand.Writable h.s (deep 0 h.s.top)) ≡ true
    → ViewGood h b (viewed h.w (h.V (deep 0 h.s.top)) (unpickler h))
view_by h true top is e =
    let o = is_there (meets demand.ReadOnly) h.s.heap (deep 0 h.s.top) is in
    kept h (h.V (deep 0 h.s.top)) (read_class h.w h.acts (class_of o.0.kind) (h.V (deep 0 h.s.top)) o.2 (stands_as h.w h.acts o.0.kind (map h.V o.0.parts) (h.V (deep 0 h.s.top)) (h.knows (deep 0 h.s.top) o.0 o.1)))
view_by h false top is e =
    let o = is_there (meets demand.Writable) h.s.heap (deep 0 h.s.top) (one_of _ _ e is) in
    seen h (class_of o.0.kind) top o.2 (stands_as h.w h.acts o.0.kind (map h.V o.0.parts) (h.V (deep 0 h.s.top)) (h.knows (deep 0 h.s.top) o.0 o.1))

pub readonly_good : (h : Here) (k : Kind) → RowGood h row.ReadOnly k h.proto (load_readonly_buffer h.w (unpickler h))
unfolding ViewGood viewed_state
readonly_good h k e =
    let fine = passes (nat_le 1 (length h.s.top)) refusal.Underflow (if_viewable h.s (deep 0 h.s.top)) e in
    let can = passes (object_meets demand.ReadOnly h.s (deep 0 h.s.top) || object_meets demand.Writable h.s (deep 0 h.s.top)) (refusal.WrongKind (deep 0 h.s.top)) None fine.1 in
    let b : Bool = object_meets demand.ReadOnly h.s (deep 0 h.s.top) in
    subst (λ (x : Step). ViewGood h b x) (sym (on_top_image h.V h.s h.proto h.acts (λ v. viewed h.w v (unpickler h)) fine.0)) (view_by h b (leb-true 1 (length h.s.top) fine.0) refl can.0)
