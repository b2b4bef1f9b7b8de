-- Blanks, written some at a time, and before a number.
use Rattle.std.proofs.Common.{◌≡◌, ℕ, ◌+◌, ◌-◌, ◌≤◌, [], ◌++◌, length, sym, ap, subst, ◌∙◌, arith}
use Rattle.std.specs.Prelude.{decimal}
use Rattle.std.proofs.lemmas.List.{append-nil, replicate-append-replicate}
use Rattle.pickle_io.specs.Text.{◌⧺◌}
use Rattle.pickle_io.specs.Device.{Told, Wrote, Broke}
use Rattle.pickle_io.proofs.Devices.{Wrote-none, Wrote-trans, Broke-after, Broke-first}
use Rattle.pickle_text.specs.Column.{blanks, right_aligned}

-- none
pub no_blanks : (a : Told) (n : ℕ) → n ≡ 0 → Wrote a a (blanks n)
no_blanks a n e = rw e (Wrote-none a)

more : (count left n : ℕ) → n ≤ left → left ≤ count → blanks (count - (left - n)) ≡ blanks (count - left) ++ blanks n
more count left n h k =
    let same : count - (left - n) ≡ (count - left) + n = omega (arith, h, k) in
    ap (λ (n : ℕ). blanks n) same ∙ sym (replicate-append-replicate (count - left) n 32)

all : (count left : ℕ) → left ≤ count → blanks count ≡ blanks (count - left) ++ blanks left
all count left k =
    let same : count ≡ (count - left) + left = omega (arith, k) in
    ap (λ (n : ℕ). blanks n) same ∙ sym (replicate-append-replicate (count - left) left 32)

put : (a b c : Told) (count left n : ℕ) → n ≤ left → left ≤ count → Wrote b c (blanks n) → Wrote a b (blanks (count - left)) → Wrote a c (blanks (count - (left - n)))
put a b c count left n h k q p = rw (more count left n h k) (Wrote-trans a b c (blanks (count - left)) (blanks n) p q)

-- some blanks more were put, and then room was made
pub blanks_more : (a b c d : Told) (count left n : ℕ) → n ≤ left → left ≤ count → Wrote c d [] → Wrote b c (blanks n) → Wrote a b (blanks (count - left)) → Wrote a d (blanks (count - (left - n)))
blanks_more a b c d count left n h k r q p =
    subst (Wrote a d) (append-nil (blanks (count - (left - n)))) (Wrote-trans a c d (blanks (count - (left - n))) [] (put a b c count left n h k q p) r)

-- or none could be made
pub blanks_stopped : (a b c d : Told) (count left n : ℕ) → n ≤ left → left ≤ count → Broke c d [] → Wrote b c (blanks n) → Wrote a b (blanks (count - left)) → Broke a d (blanks count)
blanks_stopped a b c d count left n h k r q p =
    rw (all count (left - n) (omega (arith, k))) (Broke-after a c d (blanks (count - (left - n))) (blanks (left - n)) (put a b c count left n h k q p) (Broke-first c d (blanks (left - n)) r))

-- blanks that fill five places, and then the number
pub right_there : (n start count : ℕ) → start + length (decimal n) ≡ 20 → count ≡ start - 15 → blanks count ⧺ decimal n ≡ right_aligned 5 (decimal n)
unfolding right_aligned
right_there n start count h e =
    let same : count ≡ 5 - length (decimal n) = omega (arith, h, e) in
    ap (λ (k : ℕ). blanks k ⧺ decimal n) same
