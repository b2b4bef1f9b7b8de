-- A memo whose first keys come in order.
use Rattle.std.proofs.Common.{◌≡◌, ℕ, ◌+◌, ◌<◌, ◌≤◌, List, [], ◌∷◌, ◌++◌, length, set, get_or, zero, suc, Option, Some, refl, sym, ap, ◌∙◌, arith, length-append}
use Rattle.std.proofs.lemmas.List.{append-nil}
use Rattle.std.specs.Map.{lookup}
use Rattle.std.specs.Ordering.{nat_cmp}
use Rattle.std.specs.declared.cmp.Ordering.TheVariants.{Equal, Greater}
use Rattle.std.specs.BTreeMap.{insert_entry, is_at}
use Rattle.std.specs.Cmp.{nat_cmp_is}
use Rattle.pickle_machine.specs.Inside.Memo.{entries_from}

greater : (x y : ℕ) → y < x → nat_cmp x y ≡ Greater
greater x y h = sym (nat_cmp_is x y Greater h)

equal : (x y : ℕ) → x ≡ y → nat_cmp x y ≡ Equal
equal x y h = sym (nat_cmp_is x y Equal h)

pub length-numbered : (k : ℕ) (xs : List ℕ) → length (entries_from k xs) ≡ length xs
length-numbered k [] = refl
length-numbered k (x ∷ xs) = omega (arith, length-numbered (k + 1) xs)

lookup_in : (k : ℕ) (xs : List ℕ) (es : List (ℕ × ℕ)) (key i : ℕ) → key ≡ k + i → i < length xs → lookup (is_at (nat_cmp key)) (entries_from k xs ++ es) ≡ Some (get_or xs i 0)
lookup_in k [] es key i e h = absurd (omega arith)
lookup_in k (x ∷ xs) es key zero e h = rw (equal key k (omega (arith, e))) refl
lookup_in k (x ∷ xs) es key (suc i) e h = rw (greater key k (omega (arith, e))) (lookup_in (k + 1) xs es key i (omega (arith, e)) (omega (arith, h)))

lookup_past : (k : ℕ) (xs : List ℕ) (es : List (ℕ × ℕ)) (key : ℕ) → k + length xs ≤ key → lookup (is_at (nat_cmp key)) (entries_from k xs ++ es) ≡ lookup (is_at (nat_cmp key)) es
lookup_past k [] es key h = refl
lookup_past k (x ∷ xs) es key h = rw (greater key k (omega (arith, h))) (lookup_past (k + 1) xs es key (omega (arith, h)))

insert_in : (k : ℕ) (xs : List ℕ) (es : List (ℕ × ℕ)) (key i v : ℕ) → key ≡ k + i → i < length xs → insert_entry nat_cmp (entries_from k xs ++ es) key v ≡ entries_from k (set xs i v) ++ es
insert_in k [] es key i v e h = absurd (omega arith)
insert_in k (x ∷ xs) es key zero v e h = rw (equal key k (omega (arith, e))) refl
insert_in k (x ∷ xs) es key (suc i) v e h =
    rw (greater key k (omega (arith, e))) (ap (λ (l : List (ℕ × ℕ)). (k, x) ∷ l) (insert_in (k + 1) xs es key i v (omega (arith, e)) (omega (arith, h))))

insert_past : (k : ℕ) (xs : List ℕ) (es : List (ℕ × ℕ)) (key v : ℕ) → k + length xs ≤ key → insert_entry nat_cmp (entries_from k xs ++ es) key v ≡ entries_from k xs ++ insert_entry nat_cmp es key v
insert_past k [] es key v h = refl
insert_past k (x ∷ xs) es key v h =
    rw (greater key k (omega (arith, h))) (ap (λ (l : List (ℕ × ℕ)). (k, x) ∷ l) (insert_past (k + 1) xs es key v (omega (arith, h))))

push_at : (k : ℕ) (xs : List ℕ) (key v : ℕ) → key ≡ k + length xs → entries_from k xs ++ (key, v) ∷ [] ≡ entries_from k (xs ++ v ∷ [])
push_at k [] key v e = let same : key ≡ k = omega (arith, e) in ap (λ (n : ℕ). (n, v) ∷ []) same
push_at k (x ∷ xs) key v e = ap (λ (l : List (ℕ × ℕ)). (k, x) ∷ l) (push_at (k + 1) xs key v (omega (arith, e)))

get_or-default : (xs : List ℕ) (i d e : ℕ) → i < length xs → get_or xs i d ≡ get_or xs i e
get_or-default [] i d e h = absurd (omega arith)
get_or-default (x ∷ xs) zero d e h = refl
get_or-default (x ∷ xs) (suc i) d e h = get_or-default xs i d e (omega (arith, h))

-- ---- from 0

pub row_get : (xs : List ℕ) (es : List (ℕ × ℕ)) (key x : ℕ) → key < length xs → x ≡ get_or xs key x → Some x ≡ lookup (is_at (nat_cmp key)) (entries_from 0 xs ++ es)
row_get xs es key x h e = ap Some (e ∙ get_or-default xs key x 0 h) ∙ sym (lookup_in 0 xs es key key (omega arith) h)

pub rest_get : (xs : List ℕ) (es : List (ℕ × ℕ)) (key : ℕ) (r : Option ℕ) → length xs ≤ key → r ≡ lookup (is_at (nat_cmp key)) es → r ≡ lookup (is_at (nat_cmp key)) (entries_from 0 xs ++ es)
rest_get xs es key r h e = e ∙ sym (lookup_past 0 xs es key (omega (arith, h)))

pub row_set : (xs : List ℕ) (es : List (ℕ × ℕ)) (key v : ℕ) → key < length xs → entries_from 0 (set xs key v) ++ es ≡ insert_entry nat_cmp (entries_from 0 xs ++ es) key v
row_set xs es key v h = sym (insert_in 0 xs es key key v (omega arith) h)

pub rest_set : (xs : List ℕ) (es more : List (ℕ × ℕ)) (key v : ℕ) → length xs ≤ key → more ≡ insert_entry nat_cmp es key v → entries_from 0 xs ++ more ≡ insert_entry nat_cmp (entries_from 0 xs ++ es) key v
rest_set xs es more key v h e = ap (λ (l : List (ℕ × ℕ)). entries_from 0 xs ++ l) e ∙ sym (insert_past 0 xs es key v (omega (arith, h)))

none_at : (es : List (ℕ × ℕ)) → length es ≡ 0 → es ≡ []
none_at [] e = refl
none_at (x ∷ es) e = absurd (omega (arith, e))

pub row_push : (xs ys : List ℕ) (es : List (ℕ × ℕ)) (key v : ℕ) → ys ≡ xs ++ v ∷ [] → key ≡ length xs → length es ≡ 0 → entries_from 0 ys ++ es ≡ insert_entry nat_cmp (entries_from 0 xs ++ es) key v
row_push xs ys es key v is h n =
    let e : es ≡ [] = none_at es n in
    let one : insert_entry nat_cmp (entries_from 0 xs ++ []) key v ≡ entries_from 0 xs ++ (key, v) ∷ [] = insert_past 0 xs [] key v (omega (arith, h)) in
    let two : entries_from 0 (xs ++ v ∷ []) ++ [] ≡ entries_from 0 (xs ++ v ∷ []) = append-nil (entries_from 0 (xs ++ v ∷ [])) in
    ap (λ (l : List ℕ). entries_from 0 l ++ es) is ∙ ap (λ (l : List (ℕ × ℕ)). entries_from 0 (xs ++ v ∷ []) ++ l) e ∙ two ∙ sym (push_at 0 xs key v (omega (arith, h))) ∙ sym one
    ∙ ap (λ (l : List (ℕ × ℕ)). insert_entry nat_cmp (entries_from 0 xs ++ l) key v) (sym e)

pub entries_count : (xs : List ℕ) (es : List (ℕ × ℕ)) (m n : ℕ) → m ≡ length xs → n ≡ length es → m + n ≡ length (entries_from 0 xs ++ es)
entries_count xs es m n h k = omega (arith, length-append (entries_from 0 xs) es, length-numbered 0 xs, h, k)

pub ruleset memo_rules = (entries_count, row_get, rest_get, row_set, rest_set, row_push, length-numbered)
