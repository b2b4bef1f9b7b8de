-- The unpickler raises where rows that ask for less are refused, for what is there but cannot be used.
use Rattle.std.proofs.Common.{◌≡◌, ◌⊎◌, ℕ, zero, suc, ◌+◌, ◌-◌, ◌<◌, Bool, true, false, cond, List, [], ◌∷◌, ◌++◌, length, map, take, drop, get_or, Option, Some, None, refl, sym, ap, subst, ◌∙◌, inl, inr, arith}
use Rattle.std.proofs.lemmas.Bool.{ltb-false, leb-true, lt-ltb, le-leb}
use Rattle.std.proofs.lemmas.List.{length-map, length-take-le, length-drop}
use Rattle.std.specs.Prelude.{◌%◌, ◌/◌, ◌==◌, ◌||◌, ◌&&◌, not, nat_le, nat_lt, is_some, slice_index, if◌then◌else◌}
use Rattle.pickle_ops.specs.declared.opcode.Opcode.{Opcode}
use Rattle.pickle_ops.specs.declared.opcode.Opcode.TheVariants as op
use Rattle.pickle_ops.specs.declared.form.Form.TheVariants as form
use Rattle.pickle_ops.specs.declared.class.Demand.TheVariants as demand
use Rattle.pickle_ops.specs.declared.row.Row.TheVariants as row
use Rattle.pickle_ops.specs.declared.row.Taking.{Taking}
use Rattle.pickle_ops.specs.declared.row.Taking.TheVariants as taking
use Rattle.pickle_ops.specs.declared.row.Cutting.{Cutting}
use Rattle.pickle_ops.specs.declared.row.Cutting.TheVariants as cutting
use Rattle.pickle_ops.specs.declared.row.Filling.{Filling}
use Rattle.pickle_ops.specs.declared.row.Filling.TheVariants as filling
use Rattle.pickle_ops.specs.Argument.{number_of}
use Rattle.pickle_ops.specs.Row.{count_of, values_of, row_of_opcode}
use Rattle.pickle_machine.specs.declared.refusal.Refusal.{Refusal}
use Rattle.pickle_machine.specs.declared.refusal.Refusal.TheVariants as refusal
use Rattle.pickle_machine.specs.declared.loader.Fill.{Fill as Goes}
use Rattle.pickle_machine.specs.Move.{unless, if_deep, if_paired, if_target, if_filled, if_viewable, object_meets, taking_refusal, cutting_refusal, deep, under, cut, last_of, without, memo_at, refusal_of}
use Rattle.pickle_machine.specs.Loader.{loose_at, view_at, opaque_at, iterates_at, keyed_at, takes_call, takes_call_with, takes_obj, string_at, takes_string, asks_less, is_odd, fill_when, fill_of}
use Rattle.pickle_loader.specs.Environment.{PyType, PyList, PyDict, PyByteArray, Value, Plain, Own, Foreign, is_elsewhere, Act, Given, Find, Call, New, NewEx, SetState, Method, Reply, Raises, Answers, Unpickler}
use Rattle.pickle_loader.specs.Unpickler.{Step, Ran, Raised, answered, ask, make, get, if_able, can_call, can_call_with, iterates, has_keys, is_str, viewed, put_in, fill_own, fill, fills, fill_pairs, then_raises, pop, item, on_top, pop_mark, instantiated, tell}
use Rattle.pickle_loader.specs.Dispatch.{dispatch}
use Rattle.pickle_loader.specs.Listed.{listed_of}
use Rattle.pickle_loader.specs.Whole.{IsWhole}
use Rattle.pickle_loader.specs.Beyond.{is_missing, RaisesAt}
use Rattle.pickle_loader.proofs.Images.{image, pop_image, on_top_image, mark_image}
use Rattle.pickle_loader.proofs.Cuts.{drop_zero, no_two}
use Rattle.pickle_loader.proofs.Methods.{Here, unpickler, quiet}
use Rattle.pickle_loader.proofs.Fills.{deep_without}
use Rattle.pickle_loader.proofs.Wholes.{there_deep, there_first, there_under}
use Rattle.pickle_loader.proofs.Origins.{neither, not_elsewhere, not_iterates, not_keys, not_text, not_viewed, not_filled, target_loose, build_meets}

-- ---- tests

-- it raises, and what it did besides is not listed
abbrev pub Unlisted : Here → Step → Type 0
Unlisted h step = RaisesAt (listed_of h.acts) step

-- where a refusal does not say that something is missing, it raises
abbrev pub Others : Here → Option Refusal → Step → Type 0
Others h x step = (r : Refusal) → x ≡ Some r → is_missing r ≡ false → Unlisted h step

none : (h : Here) (step : Step) → Others h None step
none h step r e m = absurd cc

past : (h : Here) (b : Bool) (x : Refusal) (rest : Option Refusal) (step : Step) → is_missing x ≡ true → (b ≡ true → Others h rest step) → Others h (unless b x rest) step
past h true x rest step f more r e m = more refl r e m
past h false x rest step f more r e m =
    let same : x ≡ r = cc in
    let bad : true ≡ false = sym f ∙ ap is_missing same ∙ m in
    absurd cc

raised_by : (h : Here) (b : Bool) (x : Refusal) (rest : Option Refusal) (step : Step) → (b ≡ false → Unlisted h step) → (b ≡ true → Others h rest step) → Others h (unless b x rest) step
raised_by h true x rest step short long r e m = long refl r e m
raised_by h false x rest step short long r e m = short refl

only_missing : (h : Here) (b : Bool) (x : Refusal) (step : Step) → is_missing x ≡ true → Others h (unless b x None) step
only_missing h b x step f = past h b x None step f (λ _. none h step)

always : (h : Here) (x : Option Refusal) (step : Step) → Unlisted h step → Others h x step
always h x step unlisted r e m = unlisted

-- a method runs unseen, and then it raises
method_raises : (h : Here) (r : Reply) (u : Unpickler) → u.acts ≡ h.acts → Unlisted h (answered r Method u (λ v q. Raised q.acts))
method_raises h Raises u e = quiet u.acts Method refl ∙ ap listed_of e
method_raises h (Answers x) u e = quiet u.acts Method refl ∙ ap listed_of e

unable : (h : Here) (b : Bool) (u : Unpickler) (step : Step) → u.acts ≡ h.acts → b ≡ false → Unlisted h (if_able h.w b u step)
unable h true u step e f = absurd cc
unable h false u step e f = method_raises h (h.w.reply u.acts Method) u e

-- ---- values that are taken

within_le : (n m : ℕ) → nat_le n m ≡ true → (d : ℕ) × (n + d ≡ m)
within_le n m e = (m - n, omega (arith, leb-true n m e))

item_mapped : (V : ℕ → Value) (xs : List ℕ) (i : ℕ) → i < length xs → item i (map V xs) ≡ V (get_or xs i 0)
item_mapped V [] i h = absurd (omega (arith, h))
item_mapped V (x ∷ xs) zero h = refl
item_mapped V (x ∷ xs) (suc i) h = item_mapped V xs i (omega (arith, h))

item_dropped : (V : ℕ → Value) (xs : List ℕ) (m i : ℕ) → m + i < length xs → item i (map V (drop m xs)) ≡ V (get_or xs (m + i) 0)
item_dropped V [] m i h = absurd (omega (arith, h))
item_dropped V (x ∷ xs) zero i h = ap (λ (l : List ℕ). item i (map V l)) (drop_zero (x ∷ xs)) ∙ item_mapped V (x ∷ xs) i (omega (arith, h)) ∙ ap (λ (j : ℕ). V (get_or (x ∷ xs) j 0)) (omega arith)
item_dropped V (x ∷ xs) (suc m) i h = let place : suc (m + i) ≡ suc m + i = omega arith in item_dropped V xs m i (omega (arith, h)) ∙ ap (λ (j : ℕ). V (get_or (x ∷ xs) j 0)) place

-- value i of the n that are popped is that of the object at this depth
value_at : (h : Here) (n i d : ℕ) → n ≡ suc (i + d) → nat_le n (length h.s.top) ≡ true → item i (map h.V (last_of n h.s)) ≡ h.V (deep d h.s.top)
value_at h n i d e enough =
    let most = leb-true n (length h.s.top) enough in
    let place : length h.s.top - n + i ≡ length h.s.top - 1 - d = omega (arith, e, most) in
    item_dropped h.V h.s.top (length h.s.top - n) i (omega (arith, e, most)) ∙ ap (λ (m : ℕ). h.V (get_or h.s.top m 0)) place

there_at_depth : (h : Here) (d n : ℕ) → IsWhole h.s → d < n → nat_le n (length h.s.top) ≡ true → deep d h.s.top < length h.s.heap
there_at_depth h d n whole less enough = there_deep (length h.s.heap) d h.s.top whole.top (omega (arith, less, leb-true n (length h.s.top) enough))

-- ---- shapes

take_others : (h : Here) (t : Taking) (go : List Value → Unpickler → Step)
    → (nat_le (count_of t) (length h.s.top) ≡ true → Others h (taking_refusal t h.s) (go (map h.V (last_of (count_of t) h.s)) (image h.V (without (count_of t) h.s) h.proto h.acts)))
    → Others h (refusal_of (row.Take t) h.s) (pop (count_of t) (unpickler h) go)
take_others h t go more =
    past h (nat_le (count_of t) (length h.s.top)) refusal.Underflow (taking_refusal t h.s) (pop (count_of t) (unpickler h) go) refl
    (λ enough. subst (λ (x : Step). Others h (taking_refusal t h.s) x) (sym (pop_image h.V h.s h.proto h.acts (count_of t) go enough)) (more enough))

cut_others : (h : Here) (c : Cutting) (go : List Value → Unpickler → Step) → Others h (cutting_refusal c h.s) (go (map h.V h.s.top) (image h.V (cut h.s) h.proto h.acts)) → Others h (refusal_of (row.Cut c) h.s) (pop_mark (unpickler h) go)
cut_others h c go more =
    past h (nat_lt 0 (length h.s.marked)) refusal.NoMark (cutting_refusal c h.s) (pop_mark (unpickler h) go) refl
    (λ marked. subst (λ (x : Step). Others h (cutting_refusal c h.s) x) (sym (mark_image h.V h.s h.proto h.acts go marked)) more)

top_others : (h : Here) (go : Value → Step) (rest : Option Refusal) → (nat_le 1 (length h.s.top) ≡ true → Others h rest (go (h.V (deep 0 h.s.top)))) → Others h (if_deep 1 h.s.top rest) (on_top (unpickler h) go)
top_others h go rest more =
    past h (nat_le 1 (length h.s.top)) refusal.Underflow rest (on_top (unpickler h) go) refl
    (λ enough. subst (λ (x : Step). Others h rest x) (sym (on_top_image h.V h.s h.proto h.acts go enough)) (more enough))

-- ---- calls

not_both : (a b : Bool) → (a && b) ≡ false → (a ≡ false) ⊎ (b ≡ false)
not_both true b e = inr e
not_both false b e = inl refl

left_false : (a b : Bool) → a ≡ false → (a && b) ≡ false
left_false true b e = absurd cc
left_false false b e = refl

right_false : (a b : Bool) → b ≡ false → (a && b) ≡ false
right_false true b e = e
right_false false b e = refl

-- a function and its arguments below some objects
no_call : (h : Here) (above : ℕ) → IsWhole h.s → nat_le (above + 2) (length h.s.top) ≡ true → takes_call above h.s ≡ false → can_call (h.V (deep (above + 1) h.s.top)) (h.V (deep above h.s.top)) ≡ false
no_call h above whole enough e =
    let f : ℕ = deep (above + 1) h.s.top in
    let a : ℕ = deep above h.s.top in
    let both : (loose_at h.s.heap f && iterates_at h.s.heap a) ≡ false = ap (λ (b : Bool). b && (loose_at h.s.heap f && iterates_at h.s.heap a)) (sym enough) ∙ e in
    elim (not_both (loose_at h.s.heap f) (iterates_at h.s.heap a) both) [
      | inl bad ↦ left_false (is_elsewhere (h.V f)) (iterates (h.V a)) (not_elsewhere h f whole (there_at_depth h (above + 1) (above + 2) whole (omega arith) enough) bad)
      | inr bad ↦ right_false (is_elsewhere (h.V f)) (iterates (h.V a)) (not_iterates h a (there_at_depth h above (above + 2) whole (omega arith) enough) bad)
    ]

-- as many demands as there are
abbrev CallOthers : Here → Bool → Step → Type 0
CallOthers h b step = Others h (refusal_of (cond b (row.Take taking.Two) (row.Take taking.Call)) h.s) step

call_others : (h : Here) (b : Bool) (act : List Value → Act) → IsWhole h.s → takes_call 0 h.s ≡ b
    → CallOthers h b (pop 2 (unpickler h) (λ vs q. if_able h.w (can_call (item 0 vs) (item 1 vs)) q (get h.w (act vs) q)))
call_others h true act whole e = take_others h taking.Two (λ vs q. if_able h.w (can_call (item 0 vs) (item 1 vs)) q (get h.w (act vs) q)) (λ enough. none h _)
call_others h false act whole e =
    take_others h taking.Call (λ vs q. if_able h.w (can_call (item 0 vs) (item 1 vs)) q (get h.w (act vs) q))
    (λ enough.
    let vs : List Value = map h.V (last_of 2 h.s) in
    let q : Unpickler = image h.V (without 2 h.s) h.proto h.acts in
    let able : can_call (item 0 vs) (item 1 vs) ≡ false =
    ap (λ (v : Value). can_call v (item 1 vs)) (value_at h 2 0 1 refl enough)
    ∙ ap (λ (v : Value). can_call (h.V (deep 1 h.s.top)) v) (value_at h 2 1 0 refl enough)
    ∙ no_call h 0 whole enough e in
    always h (taking_refusal taking.Call h.s) (if_able h.w (can_call (item 0 vs) (item 1 vs)) q (get h.w (act vs) q)) (unable h (can_call (item 0 vs) (item 1 vs)) q (get h.w (act vs) q) refl able))

enough_less : (n m : ℕ) (l : ℕ) → m < n → nat_le n l ≡ true → nat_le (m + 1) l ≡ true
enough_less n m l less e = le-leb (m + 1) l (omega (arith, less, leb-true n l e))

call_with_others : (h : Here) (b : Bool) → IsWhole h.s → takes_call_with h.s ≡ b
    → Others h (refusal_of (cond b (row.Take taking.Three) (row.Take taking.CallWith)) h.s) (pop 3 (unpickler h) (λ vs q. if_able h.w (can_call_with h.w h.acts (item 0 vs) (item 1 vs) (item 2 vs)) q (get h.w (NewEx (item 0 vs) (item 1 vs) (item 2 vs)) q)))
call_with_others h true whole e =
    take_others h taking.Three (λ vs q. if_able h.w (can_call_with h.w h.acts (item 0 vs) (item 1 vs) (item 2 vs)) q (get h.w (NewEx (item 0 vs) (item 1 vs) (item 2 vs)) q)) (λ enough. none h _)
call_with_others h false whole e =
    take_others h taking.CallWith (λ vs q. if_able h.w (can_call_with h.w h.acts (item 0 vs) (item 1 vs) (item 2 vs)) q (get h.w (NewEx (item 0 vs) (item 1 vs) (item 2 vs)) q))
    (λ enough.
    let vs : List Value = map h.V (last_of 3 h.s) in
    let q : Unpickler = image h.V (without 3 h.s) h.proto h.acts in
    let f : Value = h.V (deep 2 h.s.top) in
    let a : Value = h.V (deep 1 h.s.top) in
    let k : Value = h.V (deep 0 h.s.top) in
    let able : can_call_with h.w h.acts f a k ≡ false = elim (not_both (takes_call 1 h.s) (keyed_at h.s (deep 0 h.s.top)) e) [
      | inl bad ↦ left_false (can_call f a) (has_keys h.w h.acts k) (no_call h 1 whole enough bad)
      | inr bad ↦ right_false (can_call f a) (has_keys h.w h.acts k) (not_keys h (deep 0 h.s.top) whole (there_at_depth h 0 3 whole (omega arith) enough) bad)
    ] in
    let same : can_call_with h.w h.acts (item 0 vs) (item 1 vs) (item 2 vs) ≡ false =
    ap (λ (v : Value). can_call_with h.w h.acts v (item 1 vs) (item 2 vs)) (value_at h 3 0 2 refl enough)
    ∙ ap (λ (v : Value). can_call_with h.w h.acts f v (item 2 vs)) (value_at h 3 1 1 refl enough)
    ∙ ap (λ (v : Value). can_call_with h.w h.acts f a v) (value_at h 3 2 0 refl enough)
    ∙ able in
    always h (taking_refusal taking.CallWith h.s) (if_able h.w (can_call_with h.w h.acts (item 0 vs) (item 1 vs) (item 2 vs)) q (get h.w (NewEx (item 0 vs) (item 1 vs) (item 2 vs)) q))
    (unable h (can_call_with h.w h.acts (item 0 vs) (item 1 vs) (item 2 vs)) q (get h.w (NewEx (item 0 vs) (item 1 vs) (item 2 vs)) q) refl same))

-- OBJ
class_unlisted : (h : Here) (xs : List ℕ) (q : Unpickler) → q.acts ≡ h.acts → is_elsewhere (h.V (get_or xs 0 0)) ≡ false → Unlisted h (instantiated h.w (map h.V xs) q)
class_unlisted h [] q e bad = ap listed_of e
class_unlisted h (x ∷ xs) q e bad = unable h (is_elsewhere (h.V x)) q _ e bad

obj_others : (h : Here) (b : Bool) → IsWhole h.s → takes_obj h.s ≡ b → Others h (refusal_of (cond b (row.Cut cutting.Any) (row.Cut cutting.Callable)) h.s) (pop_mark (unpickler h) (λ items q. instantiated h.w items q))
obj_others h true whole e = cut_others h cutting.Any (λ items q. instantiated h.w items q) (none h _)
obj_others h false whole e =
    cut_others h cutting.Callable (λ items q. instantiated h.w items q)
    (past h (nat_le 1 (length h.s.top)) refusal.Underflow _ _ refl
    (λ enough.
    let some : 0 < length h.s.top = omega (arith, leb-true 1 (length h.s.top) enough) in
    let bad : loose_at h.s.heap (slice_index h.s.top 0) ≡ false = ap (λ (b : Bool). b && loose_at h.s.heap (slice_index h.s.top 0)) (sym (lt-ltb 0 (length h.s.top) some)) ∙ e in
    always h _ _ (class_unlisted h h.s.top (image h.V (cut h.s) h.proto h.acts) refl (not_elsewhere h (get_or h.s.top 0 0) whole (there_first (length h.s.heap) h.s.top whole.top some) bad))))

-- ---- names

names_unlisted : (h : Here) (a b : Bool) (x : Step) → (a ≡ false) ⊎ (b ≡ false) → Unlisted h (if a then (if b then x else Raised h.acts) else Raised h.acts)
names_unlisted h false b x bad = refl
names_unlisted h true false x bad = refl
names_unlisted h true true x (inl bad) = absurd cc
names_unlisted h true true x (inr bad) = absurd cc

names_others : (h : Here) → IsWhole h.s
    → Others h (refusal_of (row.Take taking.Names) h.s) (pop 2 (unpickler h) (λ vs q. if is_str h.w (item 1 vs) then (if is_str h.w (item 0 vs) then get h.w (Find q.proto (Given (item 0 vs)) (Given (item 1 vs))) q else Raised q.acts) else Raised q.acts))
names_others h whole =
    take_others h taking.Names (λ vs q. if is_str h.w (item 1 vs) then (if is_str h.w (item 0 vs) then get h.w (Find q.proto (Given (item 0 vs)) (Given (item 1 vs))) q else Raised q.acts) else Raised q.acts)
    (λ enough.
    let vs : List Value = map h.V (last_of 2 h.s) in
    let upper : is_str h.w (item 1 vs) ≡ is_str h.w (h.V (deep 0 h.s.top)) = ap (is_str h.w) (value_at h 2 1 0 refl enough) in
    let lower : is_str h.w (item 0 vs) ≡ is_str h.w (h.V (deep 1 h.s.top)) = ap (is_str h.w) (value_at h 2 0 1 refl enough) in
    raised_by h (object_meets demand.Text h.s (deep 0 h.s.top)) (refusal.NotText (deep 0 h.s.top)) _ _
    (λ bad. names_unlisted h (is_str h.w (item 1 vs)) (is_str h.w (item 0 vs)) _ (inl (upper ∙ not_text h (deep 0 h.s.top) (there_at_depth h 0 2 whole (omega arith) enough) bad)))
    (λ _. raised_by h (object_meets demand.Text h.s (deep 1 h.s.top)) (refusal.NotText (deep 1 h.s.top)) None _
    (λ bad. names_unlisted h (is_str h.w (item 1 vs)) (is_str h.w (item 0 vs)) _ (inr (lower ∙ not_text h (deep 1 h.s.top) (there_at_depth h 1 2 whole (omega arith) enough) bad)))
    (λ _. none h _)))

-- ---- DICT

odd_dict : (h : Here) (r : Reply) (b : Bool) (x : Unpickler → Step) (u : Unpickler) → u.acts ≡ h.acts → b ≡ false → Unlisted h (answered r Method u (λ v q. if b then x q else Raised q.acts))
odd_dict h r true x u e bad = absurd cc
odd_dict h r false x u e bad = method_raises h r u e

dict_others : (h : Here) → Others h (refusal_of (row.Cut cutting.Pairs) h.s) (pop_mark (unpickler h) (λ items q. ask h.w Method q (λ v r. if length items % 2 == 0 then make PyDict items r else Raised r.acts)))
dict_others h =
    cut_others h cutting.Pairs (λ items q. ask h.w Method q (λ v r. if length items % 2 == 0 then make PyDict items r else Raised r.acts))
    (raised_by h (length h.s.top % 2 == 0) refusal.OddItems None _
    (λ bad. odd_dict h (h.w.reply h.acts Method) (length (map h.V h.s.top) % 2 == 0) (λ q. make PyDict (map h.V h.s.top) q) (image h.V (cut h.s) h.proto h.acts) refl
    (ap (λ (n : ℕ). n % 2 == 0) (length-map h.s.top h.V) ∙ bad))
    (λ _. none h _))

-- ---- READONLY_BUFFER

raised_unlisted : (h : Here) (x : Step) → x ≡ Raised h.acts → Unlisted h x
raised_unlisted h x e = subst (λ (y : Step). Unlisted h y) (sym e) refl

view_others : (h : Here) (b : Bool) → IsWhole h.s → takes_string h.s ≡ b → Others h (refusal_of (cond b row.Nothing row.ReadOnly) h.s) (on_top (unpickler h) (λ v. viewed h.w v (unpickler h)))
view_others h true whole is = none h _
view_others h false whole is =
    let id : ℕ = deep 0 h.s.top in
    top_others h (λ v. viewed h.w v (unpickler h)) (if_viewable h.s id)
    (λ enough. raised_by h (object_meets demand.ReadOnly h.s id || object_meets demand.Writable h.s id) (refusal.WrongKind id) None _
    (λ bad.
    let both = neither (object_meets demand.ReadOnly h.s id) (object_meets demand.Writable h.s id) bad in
    let some : 0 < length h.s.top = omega (arith, leb-true 1 (length h.s.top) enough) in
    let text : string_at h.s.heap id ≡ false = ap (λ (b : Bool). b && string_at h.s.heap id) (sym (lt-ltb 0 (length h.s.top) some)) ∙ is in
    raised_unlisted h (viewed h.w (h.V id) (unpickler h)) (not_viewed h id (unpickler h) (there_at_depth h 0 1 whole (omega arith) enough) text both.0 both.1))
    (λ _. none h _))

-- ---- what is put in

-- where nothing goes into it as the machine would refuse, it is no view
no_fill : (c v q : Bool) (x : Goes) → cond (c && (v || q)) (Some x) None ≡ None → c ≡ true → (v ≡ false) × (q ≡ false)
no_fill true true q x e h = absurd cc
no_fill true false true x e h = absurd cc
no_fill true false false x e h = (refl, refl)
no_fill false v q x e h = absurd cc

no_odd_fill : (c v o q : Bool) (x : Goes) → cond (c && (v || (o && q))) (Some x) None ≡ None → c ≡ true → o ≡ true → (v ≡ false) × (q ≡ false)
no_odd_fill true true o q x e h g = absurd cc
no_odd_fill true false true q x e h g = no_fill true false q x e refl
no_odd_fill true false false q x e h g = absurd cc
no_odd_fill false v o q x e h g = absurd cc

-- some items, none of which can go in
some_fill : (h : Here) (f : Filling) (id : ℕ) (items : List ℕ) (u : Unpickler) → IsWhole h.s → id < length h.s.heap → u.acts ≡ h.acts → 0 < length items → object_meets (demand.Target f) h.s id ≡ false → view_at h.s.heap id ≡ false
    → Unlisted h (fills h.w f (h.V id) (map h.V items) u)
some_fill h f id [] u whole within e some bad view = absurd (omega (arith, some))
some_fill h f id (x ∷ items) u whole within e some bad view =
    let elsewhere : is_elsewhere (h.V id) ≡ false = not_elsewhere h id whole within (target_loose h f id within bad view) in
    subst (λ (y : Step). Unlisted h y) (sym (not_filled h f id (map h.V (x ∷ items)) u within bad elsewhere)) (ap listed_of e)

change_others : (h : Here) (f : Filling) (go : List Value → Value → Unpickler → Step)
    → (nat_le (values_of f + 1) (length h.s.top) ≡ true → object_meets (demand.Target f) h.s (deep (values_of f) h.s.top) ≡ false
    → Unlisted h (go (map h.V (last_of (values_of f) h.s)) (h.V (deep (values_of f) h.s.top)) (image h.V (without (values_of f) h.s) h.proto h.acts)))
    → Others h (refusal_of (row.Change f) h.s) (pop (values_of f) (unpickler h) (λ vs q. on_top q (λ target. go vs target q)))
change_others h f go more =
    let n : ℕ = values_of f in
    past h (nat_le (n + 1) (length h.s.top)) refusal.Underflow (if_target f h.s (deep n h.s.top)) _ refl
    (λ enough.
    let below : n < length h.s.top = omega (arith, leb-true (n + 1) (length h.s.top) enough) in
    let size : length (without n h.s).top ≡ length h.s.top - n = length-take-le (length h.s.top - n) h.s.top (omega arith) in
    raised_by h (object_meets (demand.Target f) h.s (deep n h.s.top)) (refusal.WrongKind (deep n h.s.top)) None _
    (λ bad. subst (λ (x : Step). Unlisted h x) (sym (pop_image h.V h.s h.proto h.acts n (λ vs q. on_top q (λ target. go vs target q)) (le-leb n (length h.s.top) (omega (arith, below)))))
    (subst (λ (x : Step). Unlisted h x) (sym (on_top_image h.V (without n h.s) h.proto h.acts (λ target. go (map h.V (last_of n h.s)) target (image h.V (without n h.s) h.proto h.acts)) (le-leb 1 (length (without n h.s).top) (omega (arith, size, below)))))
    (subst (λ (id : ℕ). Unlisted h (go (map h.V (last_of n h.s)) (h.V id) (image h.V (without n h.s) h.proto h.acts))) (sym (deep_without n h.s.top below)) (more enough bad))))
    (λ _. none h _))

length_drop_all : (n : ℕ) (xs : List ℕ) → n < length xs → length (drop (length xs - n) xs) ≡ n
length_drop_all n xs h = omega (arith, h, length-drop (length xs - n) xs)

-- APPEND and SETITEM
fill_others : (h : Here) (f : Filling) → IsWhole h.s → 0 < values_of f → (fill_of (row.Change f) h.s ≡ None → nat_lt (values_of f) (length h.s.top) ≡ true → view_at h.s.heap (deep (values_of f) h.s.top) ≡ false)
    → fill_of (row.Change f) h.s ≡ None → Others h (refusal_of (row.Change f) h.s) (pop (values_of f) (unpickler h) (λ vs q. on_top q (λ target. fills h.w f target vs q)))
fill_others h f whole values view e =
    change_others h f (λ vs target q. fills h.w f target vs q)
    (λ enough bad.
    let below : values_of f < length h.s.top = omega (arith, leb-true (values_of f + 1) (length h.s.top) enough) in
    some_fill h f (deep (values_of f) h.s.top) (last_of (values_of f) h.s) (image h.V (without (values_of f) h.s) h.proto h.acts) whole
    (there_deep (length h.s.heap) (values_of f) h.s.top whole.top below) refl (omega (arith, length_drop_all (values_of f) h.s.top below, values)) bad
    (view e (lt-ltb (values_of f) (length h.s.top) below)))

append_view : (h : Here) → fill_of (row.Change filling.Append) h.s ≡ None → nat_lt 1 (length h.s.top) ≡ true → view_at h.s.heap (deep 1 h.s.top) ≡ false
append_view h e below =
    let at : fill_when filling.Append 1 (deep 1 h.s.top) h.s.heap ≡ None = ap (λ (b : Bool). cond b (fill_when filling.Append 1 (deep 1 h.s.top) h.s.heap) None) (sym below) ∙ e in
    (no_fill true (view_at h.s.heap (deep 1 h.s.top)) false _ at refl).0

setitem_view : (h : Here) → fill_of (row.Change filling.SetItem) h.s ≡ None → nat_lt 2 (length h.s.top) ≡ true → view_at h.s.heap (deep 2 h.s.top) ≡ false
setitem_view h e below =
    let at : fill_when filling.SetItem 2 (deep 2 h.s.top) h.s.heap ≡ None = ap (λ (b : Bool). cond b (fill_when filling.SetItem 2 (deep 2 h.s.top) h.s.heap) None) (sym below) ∙ e in
    (no_fill true (view_at h.s.heap (deep 2 h.s.top)) false _ at refl).0

-- BUILD
build_others : (h : Here) → IsWhole h.s → Others h (refusal_of (row.Change filling.Build) h.s) (pop 1 (unpickler h) (λ vs q. on_top q (λ target. tell h.w (SetState target (item 0 vs)) q)))
build_others h whole =
    change_others h filling.Build (λ vs target q. tell h.w (SetState target (item 0 vs)) q)
    (λ enough bad. absurd (no_two (object_meets (demand.Target filling.Build) h.s (deep 1 h.s.top)) (build_meets h (deep 1 h.s.top) (there_at_depth h 1 2 whole (omega arith) enough)) bad))

-- what is above the mark
cut_change_others : (h : Here) (f : Filling) (go : List Value → Value → Unpickler → Step) → IsWhole h.s
    → (nat_lt 0 (length h.s.marked) ≡ true → 0 < length (under h.s.marked) → Others h (if_paired f h.s.top (if_filled f h.s.top h.s (deep 0 (under h.s.marked)))) (go (map h.V h.s.top) (h.V (deep 0 (under h.s.marked))) (image h.V (cut h.s) h.proto h.acts)))
    → Others h (refusal_of (row.CutChange f) h.s) (pop_mark (unpickler h) (λ items q. on_top q (λ target. go items target q)))
cut_change_others h f go whole more =
    past h (nat_lt 0 (length h.s.marked)) refusal.NoMark _ _ refl
    (λ marked. past h (nat_le 1 (length (under h.s.marked))) refusal.Underflow _ _ refl
    (λ enough.
    let X : Step → Type 0 = λ (x : Step). Others h (if_paired f h.s.top (if_filled f h.s.top h.s (deep 0 (under h.s.marked)))) x in
    subst X (sym (mark_image h.V h.s h.proto h.acts (λ items q. on_top q (λ target. go items target q)) marked))
    (subst X (sym (on_top_image h.V (cut h.s) h.proto h.acts (λ target. go (map h.V h.s.top) target (image h.V (cut h.s) h.proto h.acts)) enough))
    (more marked (omega (arith, leb-true 1 (length (under h.s.marked)) enough))))))

filled_others : (h : Here) (f : Filling) (b : Bool) → IsWhole h.s → nat_lt 0 (length h.s.top) ≡ b → deep 0 (under h.s.marked) < length h.s.heap → (0 < length h.s.top → view_at h.s.heap (deep 0 (under h.s.marked)) ≡ false)
    → Others h (cond b (if_target f h.s (deep 0 (under h.s.marked))) None) (fills h.w f (h.V (deep 0 (under h.s.marked))) (map h.V h.s.top) (image h.V (cut h.s) h.proto h.acts))
filled_others h f true whole is within view =
    let some : 0 < length h.s.top = omega (arith, some_of (length h.s.top) is) in
    raised_by h (object_meets (demand.Target f) h.s (deep 0 (under h.s.marked))) (refusal.WrongKind (deep 0 (under h.s.marked))) None _
    (λ bad. some_fill h f (deep 0 (under h.s.marked)) h.s.top (image h.V (cut h.s) h.proto h.acts) whole within refl some bad (view some))
    (λ _. none h _)
  where
    some_of : (n : ℕ) → nat_lt 0 n ≡ true → 0 < n
    some_of zero e = absurd cc
    some_of (suc n) e = omega arith
filled_others h f false whole is within view = none h _

cut_view : (h : Here) (f : Filling) (b : Bool) → cond b (fill_when f (length h.s.top) (deep 0 (under h.s.marked)) h.s.heap) None ≡ None → b ≡ true → fill_when f (length h.s.top) (deep 0 (under h.s.marked)) h.s.heap ≡ None
cut_view h f true e is = e
cut_view h f false e is = absurd cc

both_true : (a b : Bool) → a ≡ true → b ≡ true → (a && b) ≡ true
both_true true b f g = g
both_true false b f g = absurd cc

-- APPENDS and ADDITEMS
items_others : (h : Here) (f : Filling) → IsWhole h.s → ((rest : Option Refusal) → if_paired f h.s.top rest ≡ rest)
    → (fill_when f (length h.s.top) (deep 0 (under h.s.marked)) h.s.heap ≡ None → 0 < length h.s.top → view_at h.s.heap (deep 0 (under h.s.marked)) ≡ false)
    → fill_of (row.CutChange f) h.s ≡ None → Others h (refusal_of (row.CutChange f) h.s) (pop_mark (unpickler h) (λ items q. on_top q (λ target. fills h.w f target items q)))
items_others h f whole unpaired view e =
    cut_change_others h f (λ items target q. fills h.w f target items q) whole
    (λ marked under_some.
    let id : ℕ = deep 0 (under h.s.marked) in
    let within : id < length h.s.heap = there_deep (length h.s.heap) 0 (under h.s.marked) (there_under (length h.s.heap) h.s.marked whole.marked) under_some in
    let bad = cut_view h f (nat_lt 0 (length h.s.marked) && nat_lt 0 (length (under h.s.marked))) e (both_true _ _ marked (lt-ltb 0 (length (under h.s.marked)) under_some)) in
    subst (λ (x : Option Refusal). Others h x (fills h.w f (h.V id) (map h.V h.s.top) (image h.V (cut h.s) h.proto h.acts))) (sym (unpaired (if_filled f h.s.top h.s id)))
    (filled_others h f (nat_lt 0 (length h.s.top)) whole refl within (view bad)))

-- ---- SETITEMS

-- what becomes of pairs in a container of the unpickler's own is not listed
then_unlisted : (h : Here) (x : Step) (u : Unpickler) → listed_of u.acts ≡ listed_of h.acts → x ≡ Ran u → Unlisted h (then_raises x)
then_unlisted h x u e is = subst (λ (y : Step). Unlisted h (then_raises y)) (sym is) e

put_unlisted : (h : Here) (r : Reply) (t : PyType) (n : ℕ) (items : List Value) (u : Unpickler) → u.acts ≡ h.acts → Unlisted h (then_raises (answered r Method u (λ v q. put_in filling.SetItem (Own t n) items q)))
put_unlisted h Raises t n items u e = quiet u.acts Method refl ∙ ap listed_of e
put_unlisted h (Answers x) t n items u e = quiet (u.acts ++ Method ∷ []) _ refl ∙ quiet u.acts Method refl ∙ ap listed_of e

pub own_unlisted : (h : Here) (t : PyType) (n : ℕ) (items : List Value) (u : Unpickler) → u.acts ≡ h.acts → Unlisted h (then_raises (fill_own h.w filling.SetItem t (Own t n) items u))
own_unlisted h PyDict n items u e = put_unlisted h (h.w.reply u.acts Method) PyDict n items u e
own_unlisted h PyList n items u e = put_unlisted h (h.w.reply u.acts Method) PyList n items u e
own_unlisted h PyByteArray n items u e = put_unlisted h (h.w.reply u.acts Method) PyByteArray n items u e
own_unlisted h _ n items u e = ap listed_of e

odd_own : (h : Here) (v : Value) (items : List Value) (u : Unpickler) → u.acts ≡ h.acts → is_elsewhere v ≡ false → Unlisted h (then_raises (fills h.w filling.SetItem v items u))
odd_own h (Plain k) [] u e bad = ap listed_of e
odd_own h (Own t n) [] u e bad = ap listed_of e
odd_own h (Plain k) (x ∷ items) u e bad = ap listed_of e
odd_own h (Own t n) (x ∷ items) u e bad = own_unlisted h t n (x ∷ items) u e
odd_own h (Foreign t n) items u e bad = absurd cc

-- of one key nothing is put in
tell_unlisted : (h : Here) (r : Reply) (u : Unpickler) → u.acts ≡ h.acts → Unlisted h (then_raises (answered r Method u (λ v q. Ran q)))
tell_unlisted h Raises u e = quiet u.acts Method refl ∙ ap listed_of e
tell_unlisted h (Answers x) u e = quiet u.acts Method refl ∙ ap listed_of e

nothing_unlisted : (h : Here) (b : Bool) (u : Unpickler) → u.acts ≡ h.acts → Unlisted h (then_raises (if b then tell h.w Method u else Ran u))
nothing_unlisted h true u e = tell_unlisted h (h.w.reply u.acts Method) u e
nothing_unlisted h false u e = ap listed_of e

odd_none : (h : Here) (v : Value) (items : List Value) (u : Unpickler) → u.acts ≡ h.acts → length items ≡ 0 → Unlisted h (then_raises (fills h.w filling.SetItem v items u))
odd_none h (Plain k) [] u e bad = ap listed_of e
odd_none h (Own t n) [] u e bad = ap listed_of e
odd_none h (Foreign t n) [] u e bad = nothing_unlisted h h.w.looks_up_for_nothing u e
odd_none h v (x ∷ items) u e bad = absurd (omega (arith, bad))

odd_by : (h : Here) (id n : ℕ) (items : List Value) (u : Unpickler) (b : Bool) → IsWhole h.s → id < length h.s.heap → u.acts ≡ h.acts → nat_lt 0 (n / 2) ≡ b → length items ≡ n - 1 → n % 2 ≡ 1
    → is_odd filling.SetItem n ≡ true → fill_when filling.SetItem n id h.s.heap ≡ None
    → Unlisted h (then_raises (fills h.w filling.SetItem (h.V id) items u))
odd_by h id n items u true whole within e some size odd sets put =
    let bad = no_odd_fill (nat_lt 0 (n / 2)) (view_at h.s.heap id) (is_odd filling.SetItem n) (opaque_at h.s.heap id) _ put some sets in
    let loose : loose_at h.s.heap id ≡ false = ap (λ (b : Bool). opaque_at h.s.heap id || b) bad.0 ∙ ap (λ (b : Bool). b || false) bad.1 in
    odd_own h (h.V id) items u e (not_elsewhere h id whole within loose)
odd_by h id n items u false whole within e some size odd sets put =
    odd_none h (h.V id) items u e (omega (arith, size, ltb-false 0 (n / 2) some, odd))

fill_pairs_by : (h : Here) (b : Bool) (v : Value) (items : List Value) (q : Unpickler) → b ≡ false → Unlisted h (then_raises (fills h.w filling.SetItem v (take (length items - 1) items) q))
    → Unlisted h (if b then fills h.w filling.SetItem v items q else then_raises (fills h.w filling.SetItem v (take (length items - 1) items) q))
fill_pairs_by h true v items q e unlisted = absurd cc
fill_pairs_by h false v items q e unlisted = unlisted

is_odd_number : (n : ℕ) → (n % 2 == 0) ≡ false → n % 2 ≡ 1
is_odd_number n e = grind arith

is_even_number : (n : ℕ) → (n % 2 == 0) ≡ true → n % 2 ≡ 0
is_even_number n e = grind arith

pairs_view : (b c v o q : Bool) (x : Goes) → cond (b && (v || (o && q))) (Some x) None ≡ None → b ≡ true → v ≡ false
pairs_view true c true o q x e some = absurd cc
pairs_view true c false o q x e some = refl
pairs_view false c v o q x e some = absurd cc

setitems_others : (h : Here) → IsWhole h.s → fill_of (row.CutChange filling.SetItem) h.s ≡ None → Others h (refusal_of (row.CutChange filling.SetItem) h.s) (pop_mark (unpickler h) (λ items q. on_top q (λ target. fill_pairs h.w target items q)))
setitems_others h whole e =
    cut_change_others h filling.SetItem (λ items target q. fill_pairs h.w target items q) whole
    (λ marked under_some.
    let id : ℕ = deep 0 (under h.s.marked) in
    let n : ℕ = length h.s.top in
    let q : Unpickler = image h.V (cut h.s) h.proto h.acts in
    let items : List Value = map h.V h.s.top in
    let size : length items ≡ n = length-map h.s.top h.V in
    let within : id < length h.s.heap = there_deep (length h.s.heap) 0 (under h.s.marked) (there_under (length h.s.heap) h.s.marked whole.marked) under_some in
    let bad = cut_view h filling.SetItem (nat_lt 0 (length h.s.marked) && nat_lt 0 (length (under h.s.marked))) e (both_true _ _ marked (lt-ltb 0 (length (under h.s.marked)) under_some)) in
    raised_by h (n % 2 == 0) refusal.OddItems (if_filled filling.SetItem h.s.top h.s id) (fill_pairs h.w (h.V id) items q)
    (λ odd.
    let front : length (take (length items - 1) items) ≡ n - 1 = length-take-le (length items - 1) items (omega arith) ∙ omega (arith, size) in
    fill_pairs_by h (length items % 2 == 0) (h.V id) items q (ap (λ (m : ℕ). m % 2 == 0) size ∙ odd)
    (odd_by h id n (take (length items - 1) items) q (nat_lt 0 (n / 2)) whole within refl refl front (is_odd_number n odd) (ap not odd) bad))
    (λ even.
    let pairs : fill_pairs h.w (h.V id) items q ≡ fills h.w filling.SetItem (h.V id) items q =
    ap (λ (b : Bool). if b then fills h.w filling.SetItem (h.V id) items q else then_raises (fills h.w filling.SetItem (h.V id) (take (length items - 1) items) q)) (ap (λ (m : ℕ). m % 2 == 0) size ∙ even) in
    subst (λ (x : Step). Others h (if_filled filling.SetItem h.s.top h.s id) x) (sym pairs)
    (filled_others h filling.SetItem (nat_lt 0 n) whole refl within
    (λ some. pairs_view (nat_lt 0 (n / 2)) true (view_at h.s.heap id) (not (n % 2 == 0)) (opaque_at h.s.heap id) _ bad (lt-ltb 0 (n / 2) (omega (arith, some, is_even_number n even)))))))

-- ---- opcodes

pop_others : (h : Here) (b : Bool) (step : Step) → Others h (cond b None (unless (nat_lt 0 (length h.s.marked)) refusal.Underflow None)) step
pop_others h true step = none h step
pop_others h false step = only_missing h (nat_lt 0 (length h.s.marked)) refusal.Underflow step refl

append_items_view : (h : Here) (id : ℕ) → fill_when filling.Append (length h.s.top) id h.s.heap ≡ None → 0 < length h.s.top → view_at h.s.heap id ≡ false
append_items_view h id e some = pairs_view (nat_lt 0 (length h.s.top)) true (view_at h.s.heap id) false (opaque_at h.s.heap id) _ e (lt-ltb 0 (length h.s.top) some)

add_items_view : (h : Here) (id : ℕ) → fill_when filling.Add (length h.s.top) id h.s.heap ≡ None → 0 < length h.s.top → view_at h.s.heap id ≡ false
add_items_view h id e some = pairs_view (nat_lt 0 (length h.s.top)) true (view_at h.s.heap id) false (opaque_at h.s.heap id) _ e (lt-ltb 0 (length h.s.top) some)

pub others : (h : Here) (o : Opcode) (arg : List ℕ) → IsWhole h.s → fill_of (row_of_opcode o arg) h.s ≡ None
    → Others h (refusal_of (asks_less (row_of_opcode o arg) h.s) h.s) (dispatch h.w o arg (unpickler h))
others h op.Inst arg whole fill = only_missing h (nat_lt 0 (length h.s.marked)) refusal.NoMark _ refl
others h op.BinPersId arg whole fill = only_missing h (nat_le 1 (length h.s.top)) refusal.Underflow _ refl
others h op.Tuple1 arg whole fill = only_missing h (nat_le 1 (length h.s.top)) refusal.Underflow _ refl
others h op.Tuple2 arg whole fill = only_missing h (nat_le 2 (length h.s.top)) refusal.Underflow _ refl
others h op.Tuple3 arg whole fill = only_missing h (nat_le 3 (length h.s.top)) refusal.Underflow _ refl
others h op.StackGlobal arg whole fill = names_others h whole
others h op.Reduce arg whole fill = call_others h (takes_call 0 h.s) (λ vs. Call (item 0 vs) (item 1 vs)) whole refl
others h op.NewObj arg whole fill = call_others h (takes_call 0 h.s) (λ vs. New (item 0 vs) (item 1 vs)) whole refl
others h op.NewObjEx arg whole fill = call_with_others h (takes_call_with h.s) whole refl
others h op.Tuple arg whole fill = only_missing h (nat_lt 0 (length h.s.marked)) refusal.NoMark _ refl
others h op.List arg whole fill = only_missing h (nat_lt 0 (length h.s.marked)) refusal.NoMark _ refl
others h op.FrozenSet arg whole fill = only_missing h (nat_lt 0 (length h.s.marked)) refusal.NoMark _ refl
others h op.Dict arg whole fill = dict_others h
others h op.Obj arg whole fill = obj_others h (takes_obj h.s) whole refl
others h op.ReadOnlyBuffer arg whole fill = view_others h (takes_string h.s) whole refl
others h op.Append arg whole fill = fill_others h filling.Append whole (omega arith) (append_view h) fill
others h op.SetItem arg whole fill = fill_others h filling.SetItem whole (omega arith) (setitem_view h) fill
others h op.Build arg whole fill = build_others h whole
others h op.Appends arg whole fill = items_others h filling.Append whole (λ rest. refl) (append_items_view h (deep 0 (under h.s.marked))) fill
others h op.AddItems arg whole fill = items_others h filling.Add whole (λ rest. refl) (add_items_view h (deep 0 (under h.s.marked))) fill
others h op.SetItems arg whole fill = setitems_others h whole fill
others h op.Pop arg whole fill = pop_others h (nat_lt 0 (length h.s.top)) _
others h op.PopMark arg whole fill = only_missing h (nat_lt 0 (length h.s.marked)) refusal.NoMark _ refl
others h op.Dup arg whole fill = only_missing h (nat_le 1 (length h.s.top)) refusal.Underflow _ refl
others h op.Get arg whole fill = only_missing h (is_some (memo_at (number_of form.Decimal arg) h.s)) (refusal.NoMemoEntry (number_of form.Decimal arg)) _ refl
others h op.BinGet arg whole fill = only_missing h (is_some (memo_at (number_of form.Uint1 arg) h.s)) (refusal.NoMemoEntry (number_of form.Uint1 arg)) _ refl
others h op.LongBinGet arg whole fill = only_missing h (is_some (memo_at (number_of form.Uint4 arg) h.s)) (refusal.NoMemoEntry (number_of form.Uint4 arg)) _ refl
others h op.Put arg whole fill = only_missing h (nat_le 1 (length h.s.top)) refusal.Underflow _ refl
others h op.BinPut arg whole fill = only_missing h (nat_le 1 (length h.s.top)) refusal.Underflow _ refl
others h op.LongBinPut arg whole fill = only_missing h (nat_le 1 (length h.s.top)) refusal.Underflow _ refl
others h op.Memoize arg whole fill = only_missing h (nat_le 1 (length h.s.top)) refusal.Underflow _ refl
others h op.Stop arg whole fill = only_missing h (nat_le 1 (length h.s.top)) refusal.Underflow _ refl
others h o arg whole fill = none h (dispatch h.w o arg (unpickler h))
