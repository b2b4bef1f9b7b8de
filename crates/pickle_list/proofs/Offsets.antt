-- The text of an offset by its hundreds.
use Rattle.std.proofs.Common.{◌≡◌, ℕ, zero, suc, Bool, true, ◌&&◌, T, eqb, get_or, eq-zero-or-pos, eqb→eq, ◌+◌, ◌-◌, ◌*◌, ◌/◌, ◌%◌, ◌<◌, ◌≤◌, List, ◌++◌, length, take, drop, sym, ap, ◌∙◌, arith, inl, inr, append_assoc, length-append}
use Rattle.std.proofs.lemmas.List.{take-take, take-append-drop, take_at, drop_at, take-replicate, replicate-append-replicate}
use lib.ListN.{length-replicate}
use Rattle.std.proofs.Math.Nat.{min-le_left, min-eq_left, min-eq_right}
use Rattle.std.proofs.lemmas.Bool.{cases_lt}
use Rattle.std.specs.Prelude.{decimal, ◌^◌, replicate, min}
use Rattle.itoa.proofs.Decimal.{decimal_pair, length_pair, pair}
use Rattle.pickle_io.specs.Text.{◌⧺◌}
use lib.Ieee.Fits.{and_l, and_r}
use Rattle.pickle_list.specs.declared.offset.TheConstants.{PAIRS}
use Rattle.pickle_text.specs.Column.{blanks, right_aligned}

blanks_left : (start front len : ℕ) → start + len ≡ 20 → front ≡ min start 17 → start - front ≡ 3 - len
blanks_left start front len is small = elim (cases_lt start 17) [
  | inl low ↦ (let e : front ≡ start = small ∙ min-eq_left {n = start} {m = 17} (omega (arith, low)) in omega (arith, is, e, low))
  | inr high ↦ (let e : front ≡ 17 = small ∙ min-eq_right {n = 17} {m = start} high in omega (arith, is, e, high))
]

at_least_four : (start front len : ℕ) → start + len ≡ 20 → len ≤ 16 → front ≡ min start 17 → 4 ≤ front
at_least_four start front len is short small = elim (cases_lt start 17) [
  | inl low ↦ (let e : front ≡ start = small ∙ min-eq_left {n = start} {m = 17} (omega (arith, low)) in omega (arith, is, short, e))
  | inr high ↦ (let e : front ≡ 17 = small ∙ min-eq_right {n = 17} {m = start} high in omega (arith, e))
]

-- ---- the digits of a pair

abbrev are_pairs : ℕ → Bool
are_pairs zero = true
are_pairs (suc p) = (eqb (get_or PAIRS (p * 2) 0) (48 + p / 10) && eqb (get_or PAIRS (p * 2 + 1) 0) (48 + p % 10)) && are_pairs p

pairs_below : (n p : ℕ) → T (are_pairs n) → p < n → (get_or PAIRS (p * 2) 0 ≡ 48 + p / 10) × (get_or PAIRS (p * 2 + 1) 0 ≡ 48 + p % 10)
pairs_below zero p t h = absurd (omega arith)
pairs_below (suc n) p t h =
    elim (eq-zero-or-pos (n - p)) [
      | inl z ↦ let e : p ≡ n = omega arith in let a = and_l _ (are_pairs n) t in rw e (eqb→eq _ _ (and_l _ _ a), eqb→eq _ _ (and_r _ _ a))
      | inr g ↦ pairs_below n p (and_r _ (are_pairs n) t) (omega arith)
    ]

pub pair_at : (p : ℕ) → p < 100 → (get_or PAIRS (p * 2) 0 ≡ 48 + p / 10) × (get_or PAIRS (p * 2 + 1) 0 ≡ 48 + p % 10)
pair_at p h = pairs_below 100 p tt h

-- ---- the text of the hundreds

pub same_number : (n : ℕ) → n / 100 * 100 + n % 100 ≡ n
same_number n = omega arith

pub pair_behind : (h r : ℕ) → 0 < h → h < 2 ^ 40 → r < 100 → right_aligned 5 (decimal (h * 100 + r)) ≡ right_aligned 3 (decimal h) ++ pair r
unfolding right_aligned ◌⧺◌
pair_behind h r pos small low =
    let high : (h * 100 + r) / 100 ≡ h = omega (arith, low) in
    let rest : (h * 100 + r) % 100 ≡ r = omega (arith, low) in
    let d : decimal (h * 100 + r) ≡ decimal h ++ pair r = rw (high, rest) at (decimal_pair (h * 100 + r) (omega (arith, pos)) (omega (arith, small, low))) in
    let l : length (decimal (h * 100 + r)) ≡ length (decimal h) + 2 = rw (high) at (length_pair (h * 100 + r) (omega (arith, pos)) (omega (arith, small, low))) in
    let b : 5 - length (decimal (h * 100 + r)) ≡ 3 - length (decimal h) = omega (arith, l) in
    ap (λ (k : ℕ). blanks k ++ decimal (h * 100 + r)) b ∙ ap (λ (x : List ℕ). blanks (3 - length (decimal h)) ++ x) d ∙ sym (append_assoc (blanks (3 - length (decimal h))) (decimal h) (pair r))

-- the text of the hundreds, with blanks before it where it fills less than three places
pub hundreds_there : (n start front : ℕ) (piece tail : List ℕ) → start + length (decimal n) ≡ 20 → front ≡ min start 17 → 4 ≤ front
    → drop start piece ≡ decimal n ++ tail → take start piece ≡ replicate start 32 → take (20 - front) (take 16 (drop front piece)) ≡ right_aligned 3 (decimal n)
unfolding right_aligned ◌⧺◌
hundreds_there n start front piece tail is small few behind before =
    let within : front ≤ start = omega (arith, min-le_left start 17, small) in
    let more : start - front ≡ 3 - length (decimal n) = blanks_left start front (length (decimal n)) is small in
    let fill : replicate start 32 ≡ blanks front ++ blanks (3 - length (decimal n)) =
    (let same : start ≡ front + (3 - length (decimal n)) = omega (arith, within, more) in ap blanks same ∙ sym (replicate-append-replicate front (3 - length (decimal n)) 32)) in
    let whole : piece ≡ blanks front ++ ((blanks (3 - length (decimal n)) ++ decimal n) ++ tail) =
    sym (take-append-drop start piece) ∙ ap (λ (x : List ℕ). x ++ drop start piece) (before ∙ fill) ∙ ap (λ (x : List ℕ). (blanks front ++ blanks (3 - length (decimal n))) ++ x) behind
    ∙ append_assoc (blanks front) (blanks (3 - length (decimal n))) (decimal n ++ tail)
    ∙ ap (λ (x : List ℕ). blanks front ++ x) (sym (append_assoc (blanks (3 - length (decimal n))) (decimal n) tail)) in
    take-take (20 - front) 16 (drop front piece) (omega (arith, few))
    ∙ ap (λ (x : List ℕ). take (20 - front) (drop front x)) whole
    ∙ ap (λ (x : List ℕ). take (20 - front) x) (drop_at (blanks front) ((blanks (3 - length (decimal n)) ++ decimal n) ++ tail) front (length-replicate {A = ℕ} front 32))
    ∙ take_at (blanks (3 - length (decimal n)) ++ decimal n) tail (20 - front)
    (omega (arith, is, within, more, length-append (blanks (3 - length (decimal n))) (decimal n), length-replicate {A = ℕ} (3 - length (decimal n)) 32))

pub hundreds_copied : (n start front m : ℕ) (text piece tail : List ℕ) → start + length (decimal n) ≡ 20 → length (decimal n) ≤ 16 → front ≡ min start 17
    → drop start piece ≡ decimal n ++ tail → take start piece ≡ take start (replicate 40 32) → m ≡ 16 → text ≡ take m (drop front piece)
    → (20 - front ≤ 16) × (take (20 - front) text ≡ right_aligned 3 (decimal n))
hundreds_copied n start front m text piece tail is short small behind before whole copied =
    let few : 4 ≤ front = at_least_four start front (length (decimal n)) is short small in
    let blank : take start piece ≡ replicate start 32 = before ∙ take-replicate {X = ℕ} start 40 32 (omega (arith, is)) in
    (omega (arith, few), ap (λ (x : List ℕ). take (20 - front) x) (copied ∙ ap (λ (k : ℕ). take k (drop front piece)) whole) ∙ hundreds_there n start front piece tail is small few behind blank)

-- ---- the offset before a part

pub low_there : (h r : ℕ) → h ≡ 0 → h * 100 + r ≡ r
low_there h r none = omega (arith, none)

pub high_there : (h r n : ℕ) (t p more : List ℕ) → (h ≡ 0 → ⊥) → h < 2 ^ 40 → r < 100 → take n t ≡ right_aligned 3 (decimal h) → p ≡ pair r
    → take n t ++ (p ++ more) ≡ right_aligned 5 (decimal (h * 100 + r)) ⧺ more
unfolding ◌⧺◌
high_there h r n t p more some small low front two =
    ap (λ (x : List ℕ). x ++ (p ++ more)) front
    ∙ ap (λ (x : List ℕ). right_aligned 3 (decimal h) ++ (x ++ more)) two
    ∙ sym (append_assoc (right_aligned 3 (decimal h)) (pair r) more)
    ∙ ap (λ (x : List ℕ). x ++ more) (sym (pair_behind h r (omega (arith, some)) small low))

pub ruleset offset_steps = (same_number, pair_at)
