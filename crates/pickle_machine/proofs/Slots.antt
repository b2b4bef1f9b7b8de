-- Slots of a memo, and the map behind them.
use Rattle.std.proofs.Common.{◌≡◌, ℕ, ◌+◌, ◌-◌, ◌<◌, ◌≤◌, Bool, true, false, cond, List, [], ◌∷◌, ◌++◌, length, set, get_or, zero, suc, Option, Some, None, refl, sym, ap, ◌∙◌, inl, inr, arith, subst}
use Rattle.std.specs.Prelude.{IsSome, nat_lt}
use Rattle.std.proofs.lemmas.Bool.{cases_Bool, ltb-true, ltb-false}
use Rattle.std.proofs.lemmas.List.Elements.{All-head, All-tail}
use Rattle.std.specs.List.{All, AllByRecursion}
use Rattle.std.specs.List.Sorted.{IsStrictlySortedBy}
use Rattle.std.specs.Map.{lookup, remove_entry, keys_of}
use Rattle.std.specs.Ordering.{nat_cmp, match_ordering, is_lt}
use Rattle.std.specs.declared.cmp.Ordering.{Ordering}
use Rattle.std.specs.declared.cmp.Ordering.TheVariants.{Less, Equal, Greater}
use Rattle.std.specs.BTreeMap.{insert_entry, is_at}
use Rattle.std.specs.Cmp.{nat_cmp_is}
use Rattle.pickle_machine.specs.Kept.{kept, AreBelow}
use Rattle.pickle_machine.specs.Inside.Slots.{holes_in, IsAbove, IsInOrder}

less : (x y : ℕ) → x < y → nat_cmp x y ≡ Less
less x y h = sym (nat_cmp_is x y Less h)

greater : (x y : ℕ) → y < x → nat_cmp x y ≡ Greater
greater x y h = sym (nat_cmp_is x y Greater h)

equal : (x y : ℕ) → x ≡ y → nat_cmp x y ≡ Equal
equal x y h = sym (nat_cmp_is x y Equal h)

-- ---- keys above a number

above_lower : (m n : ℕ) (es : List (ℕ × ℕ)) → m ≤ n → IsAbove n es → IsAbove m es
above_lower m n [] h a = tt
above_lower m n (e ∷ es) h a = (omega (arith, h, a.0), above_lower m n es h a.1)

none_above : (n key : ℕ) (es : List (ℕ × ℕ)) → key < n → IsAbove n es → lookup (is_at (nat_cmp key)) es ≡ None
none_above n key [] h a = refl
none_above n key (e ∷ es) h a = rw (less key e.0 (omega (arith, h, a.0))) (none_above n key es h a.1)

insert_below : (n key v : ℕ) (es : List (ℕ × ℕ)) → key < n → IsAbove n es → insert_entry nat_cmp es key v ≡ (key, v) ∷ es
insert_below n key v [] h a = refl
insert_below n key v (e ∷ es) h a = rw (less key e.0 (omega (arith, h, a.0))) refl

remove_below : (n key : ℕ) (es : List (ℕ × ℕ)) → key < n → IsAbove n es → remove_entry (is_at (nat_cmp key)) es ≡ es
remove_below n key [] h a = refl
remove_below n key (e ∷ es) h a = rw (less key e.0 (omega (arith, h, a.0))) (ap (λ (l : List (ℕ × ℕ)). e ∷ l) (remove_below n key es h a.1))

insert_by : (r : Ordering) (n key v : ℕ) (e : ℕ × ℕ) (es more : List (ℕ × ℕ)) → n ≤ key → n ≤ e.0 → IsAbove n es → IsAbove n more
    → IsAbove n (match_ordering r ((key, v) ∷ e ∷ es) ((e.0, v) ∷ es) (e ∷ more))
insert_by Less n key v e es more h a b c = (h, (a, b))
insert_by Equal n key v e es more h a b c = (a, b)
insert_by Greater n key v e es more h a b c = (a, c)

above_insert : (n key v : ℕ) (es : List (ℕ × ℕ)) → n ≤ key → IsAbove n es → IsAbove n (insert_entry nat_cmp es key v)
above_insert n key v [] h a = (h, tt)
above_insert n key v (e ∷ es) h a = insert_by (nat_cmp key e.0) n key v e es _ h a.0 a.1 (above_insert n key v es h a.1)

above_remove : (test : ℕ → Bool) (n : ℕ) (es : List (ℕ × ℕ)) → IsAbove n es → IsAbove n (remove_entry test es)
above_remove test n [] a = tt
above_remove test n (e ∷ es) a = step (test e.0) (above_remove test n es a.1)
  where
    step : (b : Bool) → IsAbove n (remove_entry test es) → IsAbove n (cond b es (e ∷ remove_entry test es))
    step true more = a.1
    step false more = (a.0, more)

all_less : (k : ℕ) (es : List (ℕ × ℕ)) → IsAbove (k + 1) es → AllByRecursion (λ y. nat_cmp k y ≡ Less) (keys_of es)
all_less k [] a = tt
all_less k (e ∷ es) a = (less k e.0 (omega (arith, a.0)), all_less k es a.1)

-- ---- keys below a number

not_less : (x y : ℕ) → is_lt (nat_cmp x y) ≡ false → y ≤ x
not_less x y h = elim (cases_Bool (nat_lt x y)) [
  | inl hit ↦ let f : true ≡ false = rw (less x y (ltb-true x y hit)) at h in cc
  | inr miss ↦ ltb-false x y miss
]

pub below_last : (n last : ℕ) (es : List (ℕ × ℕ)) → last < n → All (λ q. is_lt (nat_cmp last q) ≡ false) (keys_of es) → AreBelow n es
below_last n last [] h a = tt
below_last n last (e ∷ es) h a =
    let first : e.0 ≤ last = not_less last e.0 (All-head (λ q. is_lt (nat_cmp last q) ≡ false) e.0 (keys_of es) a) in
    (omega (arith, h, first), below_last n last es h (All-tail (λ q. is_lt (nat_cmp last q) ≡ false) e.0 (keys_of es) a))

pub below_none : {A : Type 0} (n : ℕ) (es : List (ℕ × ℕ)) (r : Option A) → (0 < length es → IsSome r) → r ≡ None → AreBelow n es
below_none n [] r h e = tt
below_none n (x ∷ es) r h e = let f : false ≡ true = rw e at h (omega arith) in cc

pub kept_below : (n k : ℕ) (xs : List (Option ℕ)) (es : List (ℕ × ℕ)) → k + length xs ≤ n → AreBelow n es → AreBelow n (kept k xs es)
kept_below n k [] es h a = a
kept_below n k (None ∷ xs) es h a = kept_below n (k + 1) xs es (omega (arith, h)) a
kept_below n k (Some x ∷ xs) es h a = (omega (arith, h), kept_below n (k + 1) xs es (omega (arith, h)) a)

-- ---- behind the first slot

behind : (k : ℕ) (x : Option ℕ) (xs : List (Option ℕ)) (es : List (ℕ × ℕ)) → IsAbove (k + length (x ∷ xs)) es → IsAbove ((k + 1) + length xs) es
behind k x xs es a = above_lower ((k + 1) + length xs) (k + length (x ∷ xs)) es (omega arith) a

kept_above : (k m : ℕ) (xs : List (Option ℕ)) (es : List (ℕ × ℕ)) → m ≤ k → IsAbove (k + length xs) es → IsAbove m (kept k xs es)
kept_above k m [] es h a = above_lower m (k + 0) es (omega (arith, h)) a
kept_above k m (None ∷ xs) es h a = kept_above (k + 1) m xs es (omega (arith, h)) (behind k None xs es a)
kept_above k m (Some x ∷ xs) es h a = (h, kept_above (k + 1) m xs es (omega (arith, h)) (behind k (Some x) xs es a))

later : (k : ℕ) (x : Option ℕ) (xs : List (Option ℕ)) (es : List (ℕ × ℕ)) → IsAbove (k + length (x ∷ xs)) es → IsAbove (k + 1) (kept (k + 1) xs es)
later k x xs es a = kept_above (k + 1) (k + 1) xs es (omega arith) (behind k x xs es a)

-- ---- a key of a slot

lookup_in : (k : ℕ) (xs : List (Option ℕ)) (es : List (ℕ × ℕ)) (key i : ℕ) → key ≡ k + i → i < length xs → IsAbove (k + length xs) es
    → lookup (is_at (nat_cmp key)) (kept k xs es) ≡ get_or xs i None
lookup_in k [] es key i e h a = absurd (omega (arith, h))
lookup_in k (None ∷ xs) es key zero e h a = none_above (k + 1) key (kept (k + 1) xs es) (omega (arith, e)) (later k None xs es a)
lookup_in k (Some x ∷ xs) es key zero e h a = rw (equal key k (omega (arith, e))) refl
lookup_in k (None ∷ xs) es key (suc i) e h a = lookup_in (k + 1) xs es key i (omega (arith, e)) (omega (arith, h)) (behind k None xs es a)
lookup_in k (Some x ∷ xs) es key (suc i) e h a =
    rw (greater key k (omega (arith, e))) (lookup_in (k + 1) xs es key i (omega (arith, e)) (omega (arith, h)) (behind k (Some x) xs es a))

insert_in : (k : ℕ) (xs : List (Option ℕ)) (es : List (ℕ × ℕ)) (key i v : ℕ) → key ≡ k + i → i < length xs → IsAbove (k + length xs) es
    → insert_entry nat_cmp (kept k xs es) key v ≡ kept k (set xs i (Some v)) es
insert_in k [] es key i v e h a = absurd (omega (arith, h))
insert_in k (None ∷ xs) es key zero v e h a =
    let same : key ≡ k = omega (arith, e) in
    insert_below (k + 1) key v (kept (k + 1) xs es) (omega (arith, e)) (later k None xs es a) ∙ ap (λ (n : ℕ). (n, v) ∷ kept (k + 1) xs es) same
insert_in k (Some x ∷ xs) es key zero v e h a = rw (equal key k (omega (arith, e))) refl
insert_in k (None ∷ xs) es key (suc i) v e h a = insert_in (k + 1) xs es key i v (omega (arith, e)) (omega (arith, h)) (behind k None xs es a)
insert_in k (Some x ∷ xs) es key (suc i) v e h a =
    rw (greater key k (omega (arith, e)))
    (ap (λ (l : List (ℕ × ℕ)). (k, x) ∷ l) (insert_in (k + 1) xs es key i v (omega (arith, e)) (omega (arith, h)) (behind k (Some x) xs es a)))

remove_in : (k : ℕ) (xs : List (Option ℕ)) (es : List (ℕ × ℕ)) (key i : ℕ) → key ≡ k + i → i < length xs → IsAbove (k + length xs) es
    → remove_entry (is_at (nat_cmp key)) (kept k xs es) ≡ kept k (set xs i None) es
remove_in k [] es key i e h a = absurd (omega (arith, h))
remove_in k (None ∷ xs) es key zero e h a = remove_below (k + 1) key (kept (k + 1) xs es) (omega (arith, e)) (later k None xs es a)
remove_in k (Some x ∷ xs) es key zero e h a = rw (equal key k (omega (arith, e))) refl
remove_in k (None ∷ xs) es key (suc i) e h a = remove_in (k + 1) xs es key i (omega (arith, e)) (omega (arith, h)) (behind k None xs es a)
remove_in k (Some x ∷ xs) es key (suc i) e h a =
    rw (greater key k (omega (arith, e)))
    (ap (λ (l : List (ℕ × ℕ)). (k, x) ∷ l) (remove_in (k + 1) xs es key i (omega (arith, e)) (omega (arith, h)) (behind k (Some x) xs es a)))

-- ---- a key of the map

lookup_past : (k : ℕ) (xs : List (Option ℕ)) (es : List (ℕ × ℕ)) (key : ℕ) → k + length xs ≤ key → lookup (is_at (nat_cmp key)) (kept k xs es) ≡ lookup (is_at (nat_cmp key)) es
lookup_past k [] es key h = refl
lookup_past k (None ∷ xs) es key h = lookup_past (k + 1) xs es key (omega (arith, h))
lookup_past k (Some x ∷ xs) es key h = rw (greater key k (omega (arith, h))) (lookup_past (k + 1) xs es key (omega (arith, h)))

insert_past : (k : ℕ) (xs : List (Option ℕ)) (es : List (ℕ × ℕ)) (key v : ℕ) → k + length xs ≤ key → insert_entry nat_cmp (kept k xs es) key v ≡ kept k xs (insert_entry nat_cmp es key v)
insert_past k [] es key v h = refl
insert_past k (None ∷ xs) es key v h = insert_past (k + 1) xs es key v (omega (arith, h))
insert_past k (Some x ∷ xs) es key v h =
    rw (greater key k (omega (arith, h))) (ap (λ (l : List (ℕ × ℕ)). (k, x) ∷ l) (insert_past (k + 1) xs es key v (omega (arith, h))))

remove_past : (k : ℕ) (xs : List (Option ℕ)) (es : List (ℕ × ℕ)) (key : ℕ) → k + length xs ≤ key → remove_entry (is_at (nat_cmp key)) (kept k xs es) ≡ kept k xs (remove_entry (is_at (nat_cmp key)) es)
remove_past k [] es key h = refl
remove_past k (None ∷ xs) es key h = remove_past (k + 1) xs es key (omega (arith, h))
remove_past k (Some x ∷ xs) es key h =
    rw (greater key k (omega (arith, h))) (ap (λ (l : List (ℕ × ℕ)). (k, x) ∷ l) (remove_past (k + 1) xs es key (omega (arith, h))))

push_at : (k : ℕ) (xs : List (Option ℕ)) (key v : ℕ) → key ≡ k + length xs → kept k xs ((key, v) ∷ []) ≡ kept k (xs ++ Some v ∷ []) []
push_at k [] key v e = let same : key ≡ k = omega (arith, e) in ap (λ (n : ℕ). (n, v) ∷ []) same
push_at k (None ∷ xs) key v e = push_at (k + 1) xs key v (omega (arith, e))
push_at k (Some x ∷ xs) key v e = ap (λ (l : List (ℕ × ℕ)). (k, x) ∷ l) (push_at (k + 1) xs key v (omega (arith, e)))

-- ---- counts

kept_count : (k : ℕ) (xs : List (Option ℕ)) (es : List (ℕ × ℕ)) → length (kept k xs es) + holes_in xs ≡ length xs + length es
kept_count k [] es = omega arith
kept_count k (None ∷ xs) es = omega (arith, kept_count (k + 1) xs es)
kept_count k (Some x ∷ xs) es = omega (arith, kept_count (k + 1) xs es)

holes_few : (xs : List (Option ℕ)) → holes_in xs ≤ length xs
holes_few [] = omega arith
holes_few (None ∷ xs) = omega (arith, holes_few xs)
holes_few (Some x ∷ xs) = omega (arith, holes_few xs)

holes_filled : (xs : List (Option ℕ)) (i v : ℕ) → i < length xs → get_or xs i None ≡ None → holes_in (set xs i (Some v)) + 1 ≡ holes_in xs
holes_filled [] i v h e = absurd (omega (arith, h))
holes_filled (None ∷ xs) zero v h e = refl
holes_filled (Some x ∷ xs) zero v h e = absurd cc
holes_filled (None ∷ xs) (suc i) v h e = omega (arith, holes_filled xs i v (omega (arith, h)) e)
holes_filled (Some x ∷ xs) (suc i) v h e = holes_filled xs i v (omega (arith, h)) e

holes_kept : (xs : List (Option ℕ)) (i v old : ℕ) → i < length xs → get_or xs i None ≡ Some old → holes_in (set xs i (Some v)) ≡ holes_in xs
holes_kept [] i v old h e = absurd (omega (arith, h))
holes_kept (None ∷ xs) zero v old h e = absurd cc
holes_kept (Some x ∷ xs) zero v old h e = refl
holes_kept (None ∷ xs) (suc i) v old h e = ap (λ (n : ℕ). n + 1) (holes_kept xs i v old (omega (arith, h)) e)
holes_kept (Some x ∷ xs) (suc i) v old h e = holes_kept xs i v old (omega (arith, h)) e

holes_emptied : (xs : List (Option ℕ)) (i old : ℕ) → i < length xs → get_or xs i None ≡ Some old → holes_in (set xs i None) ≡ holes_in xs + 1
holes_emptied [] i old h e = absurd (omega (arith, h))
holes_emptied (None ∷ xs) zero old h e = absurd cc
holes_emptied (Some x ∷ xs) zero old h e = refl
holes_emptied (None ∷ xs) (suc i) old h e = ap (λ (n : ℕ). n + 1) (holes_emptied xs i old (omega (arith, h)) e)
holes_emptied (Some x ∷ xs) (suc i) old h e = holes_emptied xs i old (omega (arith, h)) e

holes_pushed : (xs : List (Option ℕ)) (v : ℕ) → holes_in (xs ++ Some v ∷ []) ≡ holes_in xs
holes_pushed [] v = refl
holes_pushed (None ∷ xs) v = ap (λ (n : ℕ). n + 1) (holes_pushed xs v)
holes_pushed (Some x ∷ xs) v = holes_pushed xs v

get_or-default : (xs : List (Option ℕ)) (i : ℕ) (d e : Option ℕ) → i < length xs → get_or xs i d ≡ get_or xs i e
get_or-default [] i d e h = absurd (omega (arith, h))
get_or-default (x ∷ xs) zero d e h = refl
get_or-default (x ∷ xs) (suc i) d e h = get_or-default xs i d e (omega (arith, h))

kept_sorted : (k : ℕ) (xs : List (Option ℕ)) (es : List (ℕ × ℕ)) → IsAbove (k + length xs) es → IsStrictlySortedBy nat_cmp (keys_of es) → IsStrictlySortedBy nat_cmp (keys_of (kept k xs es))
unfolding IsStrictlySortedBy
kept_sorted k [] es a s = s
kept_sorted k (None ∷ xs) es a s = kept_sorted (k + 1) xs es (behind k None xs es a) s
kept_sorted k (Some x ∷ xs) es a s = (all_less k (kept (k + 1) xs es) (later k (Some x) xs es a), kept_sorted (k + 1) xs es (behind k (Some x) xs es a) s)

none_at : (es : List (ℕ × ℕ)) → length es ≡ 0 → es ≡ []
none_at [] e = refl
none_at (x ∷ es) e = absurd (omega (arith, e))

sorted_none : IsStrictlySortedBy nat_cmp []
unfolding IsStrictlySortedBy
sorted_none = tt

length-set : (xs : List (Option ℕ)) (i : ℕ) (x : Option ℕ) → length (set xs i x) ≡ length xs
length-set [] i x = refl
length-set (y ∷ xs) zero x = refl
length-set (y ∷ xs) (suc i) x = ap suc (length-set xs i x)

set_same : (xs : List (Option ℕ)) (i : ℕ) (x : Option ℕ) → i < length xs → get_or xs i None ≡ x → set xs i x ≡ xs
set_same [] i x h e = absurd (omega (arith, h))
set_same (y ∷ xs) zero x h e = ap (λ (z : Option ℕ). z ∷ xs) (sym e)
set_same (y ∷ xs) (suc i) x h e = ap (λ (l : List (Option ℕ)). y ∷ l) (set_same xs i x (omega (arith, h)) e)

-- ---- slots and map from key 0 on

module _ (xs : List (Option ℕ)) (n : ℕ) (es : List (ℕ × ℕ)) (o : IsInOrder xs n es) where
  above_zero : IsAbove (0 + length xs) es
  above_zero = above_lower (0 + length xs) (length xs) es (omega arith) o.above

  pub count : (a b : ℕ) → a ≡ length xs → b ≡ length es → a - n + b ≡ length (kept 0 xs es)
  count a b h i = omega (arith, kept_count 0 xs es, holes_few xs, o.empty, h, i)

  pub few : n ≤ length xs
  few = omega (arith, holes_few xs, o.empty)

  pub slot_get : (key : ℕ) (x : Option ℕ) → key < length xs → x ≡ get_or xs key x → x ≡ lookup (is_at (nat_cmp key)) (kept 0 xs es)
  slot_get key x h e = e ∙ get_or-default xs key x None h ∙ sym (lookup_in 0 xs es key key (omega arith) h above_zero)

  pub rest_get : (key : ℕ) (r : Option ℕ) → length xs ≤ key → r ≡ lookup (is_at (nat_cmp key)) es → r ≡ lookup (is_at (nat_cmp key)) (kept 0 xs es)
  rest_get key r h e = e ∙ sym (lookup_past 0 xs es key (omega (arith, h)))

  pub slot_set : (key v : ℕ) → key < length xs → kept 0 (set xs key (Some v)) es ≡ insert_entry nat_cmp (kept 0 xs es) key v
  slot_set key v h = sym (insert_in 0 xs es key key v (omega arith) h above_zero)

  pub rest_set : (more : List (ℕ × ℕ)) (key v : ℕ) → length xs ≤ key → more ≡ insert_entry nat_cmp es key v → kept 0 xs more ≡ insert_entry nat_cmp (kept 0 xs es) key v
  rest_set more key v h e = ap (kept 0 xs) e ∙ sym (insert_past 0 xs es key v (omega (arith, h)))

  pub slot_empty : (key : ℕ) → key < length xs → kept 0 (set xs key None) es ≡ remove_entry (is_at (nat_cmp key)) (kept 0 xs es)
  slot_empty key h = sym (remove_in 0 xs es key key (omega arith) h above_zero)

  pub rest_remove : (less : List (ℕ × ℕ)) (key : ℕ) → length xs ≤ key → less ≡ remove_entry (is_at (nat_cmp key)) es → kept 0 xs less ≡ remove_entry (is_at (nat_cmp key)) (kept 0 xs es)
  rest_remove less key h e = ap (kept 0 xs) e ∙ sym (remove_past 0 xs es key (omega (arith, h)))

  pub ordered : IsStrictlySortedBy nat_cmp (keys_of (kept 0 xs es))
  ordered = kept_sorted 0 xs es above_zero o.sorted

  pub push_in_order : (ys : List (Option ℕ)) (v : ℕ) → ys ≡ xs ++ Some v ∷ [] → length es ≡ 0 → IsInOrder ys n es
  push_in_order ys v is h =
      let e : es ≡ [] = none_at es h in
      subst (λ (zs : List (Option ℕ)). IsInOrder zs n es) (sym is)
      (subst (λ (l : List (ℕ × ℕ)). IsInOrder (xs ++ Some v ∷ []) n l) (sym e) (record { above = tt; sorted = sorted_none; empty = o.empty ∙ sym (holes_pushed xs v) }))

  pub slot_push : (ys : List (Option ℕ)) (key v : ℕ) → ys ≡ xs ++ Some v ∷ [] → key ≡ length xs → length es ≡ 0 → kept 0 ys es ≡ insert_entry nat_cmp (kept 0 xs es) key v
  slot_push ys key v is h i =
      let e : es ≡ [] = none_at es i in
      ap (λ (zs : List (Option ℕ)). kept 0 zs es) is ∙ ap (kept 0 (xs ++ Some v ∷ [])) e ∙ sym (push_at 0 xs key v (omega (arith, h)))
      ∙ sym (insert_past 0 xs [] key v (omega (arith, h))) ∙ ap (λ (l : List (ℕ × ℕ)). insert_entry nat_cmp (kept 0 xs l) key v) (sym e)

  pub slot_absent : (key : ℕ) → key ≡ length xs → length es ≡ 0 → None ≡ lookup (is_at (nat_cmp key)) (kept 0 xs es)
  slot_absent key h i = sym (lookup_past 0 xs es key (omega (arith, h)) ∙ ap (lookup (is_at (nat_cmp key))) (none_at es i))

  pub set_in_order : (more : List (ℕ × ℕ)) (key v : ℕ) → length xs ≤ key → more ≡ insert_entry nat_cmp es key v → IsStrictlySortedBy nat_cmp (keys_of more) → IsInOrder xs n more
  set_in_order more key v h e s = record { above = rw e (above_insert (length xs) key v es h o.above); sorted = s; empty = o.empty }

  pub remove_in_order : (less : List (ℕ × ℕ)) (key : ℕ) → less ≡ remove_entry (is_at (nat_cmp key)) es → IsStrictlySortedBy nat_cmp (keys_of less) → IsInOrder xs n less
  remove_in_order less key e s = record { above = rw e (above_remove (is_at (nat_cmp key)) (length xs) es o.above); sorted = s; empty = o.empty }

  pub fill_hole : (key v : ℕ) (x : Option ℕ) → key < length xs → x ≡ get_or xs key x → x ≡ None → IsInOrder (set xs key (Some v)) (n - 1) es
  fill_hole key v x h e i =
      let is : get_or xs key None ≡ None = get_or-default xs key None x h ∙ sym e ∙ i in
      let one = holes_filled xs key v h is in
      record { above = above_lower _ (length xs) es (omega (arith, length-set xs key (Some v))) o.above; sorted = o.sorted; empty = omega (arith, one, o.empty) }

  pub hole_there : (key : ℕ) (x : Option ℕ) → key < length xs → x ≡ get_or xs key x → x ≡ None → 1 ≤ n
  hole_there key x h e i =
      let is : get_or xs key None ≡ None = get_or-default xs key None x h ∙ sym e ∙ i in
      omega (arith, holes_filled xs key 0 h is, o.empty)

  pub fill_over : (key v old : ℕ) (x : Option ℕ) → key < length xs → x ≡ get_or xs key x → x ≡ Some old → IsInOrder (set xs key (Some v)) n es
  fill_over key v old x h e i =
      let is : get_or xs key None ≡ Some old = get_or-default xs key None x h ∙ sym e ∙ i in
      record { above = above_lower _ (length xs) es (omega (arith, length-set xs key (Some v))) o.above; sorted = o.sorted; empty = o.empty ∙ sym (holes_kept xs key v old h is) }

  pub empty_slot : (key old : ℕ) (x : Option ℕ) → key < length xs → x ≡ get_or xs key x → x ≡ Some old → IsInOrder (set xs key None) (n + 1) es
  empty_slot key old x h e i =
      let is : get_or xs key None ≡ Some old = get_or-default xs key None x h ∙ sym e ∙ i in
      record { above = above_lower _ (length xs) es (omega (arith, length-set xs key None)) o.above; sorted = o.sorted; empty = omega (arith, holes_emptied xs key old h is, o.empty) }

  pub no_entry : (key : ℕ) (x : Option ℕ) → key < length xs → x ≡ get_or xs key x → x ≡ None → kept 0 xs es ≡ remove_entry (is_at (nat_cmp key)) (kept 0 xs es)
  no_entry key x h e i =
      let is : get_or xs key None ≡ None = get_or-default xs key None x h ∙ sym e ∙ i in
      ap (λ (ys : List (Option ℕ)). kept 0 ys es) (sym (set_same xs key None h is)) ∙ slot_empty key h

pub new_in_order : (xs : List (Option ℕ)) (es : List (ℕ × ℕ)) → xs ≡ [] → es ≡ [] → IsInOrder xs 0 es
new_in_order xs es h e =
    subst (λ (ys : List (Option ℕ)). IsInOrder ys 0 es) (sym h) (subst (λ (l : List (ℕ × ℕ)). IsInOrder [] 0 l) (sym e) (record { above = tt; sorted = sorted_none; empty = refl }))

pub ruleset slot_rules = (count, few, slot_get, rest_get, slot_set, rest_set, slot_empty, rest_remove, ordered, push_in_order, slot_push, slot_absent, set_in_order, remove_in_order, fill_hole, hole_there, fill_over, empty_slot, no_entry, new_in_order)
