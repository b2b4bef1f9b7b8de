-- Numbers by their digits: more digits are a greater number, and of as many the first that differ decide.
use Rattle.std.proofs.Common.{◌≡◌, ◌≢◌, ℕ, ◌+◌, ◌*◌, ◌-◌, ◌^◌, ◌<◌, ◌≤◌, Bool, true, false, List, [], ◌∷◌, ◌++◌, length, drop, get_or, zero, suc, refl, sym, ap, subst, ◌∙◌, inl, inr, arith}
use Rattle.std.specs.Prelude.{◌&&◌, nat_lt, nat_le}
use Rattle.std.proofs.lemmas.Bool.{cases_Bool, ltb-true, ltb-false, leb-true, leb-false}
use Rattle.std.specs.Cmp.{nat_cmp_is}
use Rattle.std.specs.Cmp.Lexicographic.{slice_cmp}
use Rattle.std.specs.Ordering.{nat_cmp, ordering_then}
use Rattle.std.specs.declared.cmp.Ordering.{Ordering}
use Rattle.std.specs.declared.cmp.Ordering.TheVariants.{Less, Equal, Greater}
use Rattle.pickle_lenient.specs.Key.{is_digit}
use Rattle.pickle_lenient.specs.Number.{value_from, value_of, AreDigits, BeginsAbove, IsNumber}

less : (x y : ℕ) → x < y → nat_cmp x y ≡ Less
less x y h = sym (nat_cmp_is x y Less h)

greater : (x y : ℕ) → y < x → nat_cmp x y ≡ Greater
greater x y h = sym (nat_cmp_is x y Greater h)

equal : (x y : ℕ) → x ≡ y → nat_cmp x y ≡ Equal
equal x y h = sym (nat_cmp_is x y Equal h)

-- ---- values

-- more digits are no smaller number
pub grows : (n : ℕ) (ds : List ℕ) → n ≤ value_from n ds
grows n [] = omega arith
grows n (d ∷ ds) = omega (arith, grows (10 * n + (d - 48)) ds)

-- what is before decides
lower : (p q : ℕ) (a b : List ℕ) → p < q → length a ≡ length b → AreDigits a → value_from p a < value_from q b
lower p q [] [] h e da = h
lower p q [] (y ∷ ys) h e da = absurd (omega (arith, e))
lower p q (x ∷ xs) [] h e da = absurd (omega (arith, e))
lower p q (x ∷ xs) (y ∷ ys) h e da = lower (10 * p + (x - 48)) (10 * q + (y - 48)) xs ys (omega (arith, h, da.1)) (omega (arith, e)) da.2

-- fewer digits are a smaller number
shorter : (p : ℕ) (a ys : List ℕ) → 0 < p → length a ≤ length ys → AreDigits a → value_of a < value_from p ys
shorter p [] [] h le da = h
shorter p (x ∷ xs) [] h le da = absurd (omega (arith, le))
shorter p a (y ∷ ys) h le da = elim (cases_Bool (nat_le (length a) (length ys))) [
  | inl hit ↦ shorter (10 * p + (y - 48)) a ys (omega (arith, h)) (leb-true (length a) (length ys) hit) da
  | inr miss ↦ lower 0 p a (y ∷ ys) h (omega (arith, le, leb-false (length a) (length ys) miss)) da
]

pub fewer : (a b : List ℕ) → IsNumber a → IsNumber b → length a < length b → value_of a < value_of b
fewer a [] ia ib h = absurd (omega (arith, h))
fewer a (y ∷ ys) ia ib h = shorter (10 * 0 + (y - 48)) a ys (omega (arith, ib.first)) (omega (arith, h)) ia.digits

-- of as many, the first that differ decide
then_less : (r : Ordering) → r ≡ Less → (o : Ordering) → ordering_then r o ≡ Less
then_less r e o = rw e refl

then_greater : (r : Ordering) → r ≡ Greater → (o : Ordering) → ordering_then r o ≡ Greater
then_greater r e o = rw e refl

then_equal : (r : Ordering) → r ≡ Equal → (o : Ordering) → ordering_then r o ≡ o
then_equal r e o = rw e refl

pub as_many : (p : ℕ) (a b : List ℕ) → length a ≡ length b → AreDigits a → AreDigits b → slice_cmp nat_cmp a b ≡ nat_cmp (value_from p a) (value_from p b)
as_many p [] [] e da db = sym (equal p p refl)
as_many p [] (y ∷ ys) e da db = absurd (omega (arith, e))
as_many p (x ∷ xs) [] e da db = absurd (omega (arith, e))
as_many p (x ∷ xs) (y ∷ ys) e da db =
    let same : length xs ≡ length ys = omega (arith, e) in
    elim (cases_Bool (nat_lt x y)) [
      | inl hit ↦
          let h : x < y = ltb-true x y hit in
          then_less (nat_cmp x y) (less x y h) (slice_cmp nat_cmp xs ys)
          ∙ sym (less _ _ (lower (10 * p + (x - 48)) (10 * p + (y - 48)) xs ys (omega (arith, h, da.0, db.0)) same da.2))
      | inr miss ↦ elim (cases_Bool (nat_lt y x)) [
        | inl hit ↦
            let h : y < x = ltb-true y x hit in
            then_greater (nat_cmp x y) (greater x y h) (slice_cmp nat_cmp xs ys)
            ∙ sym (greater _ _ (lower (10 * p + (y - 48)) (10 * p + (x - 48)) ys xs (omega (arith, h, da.0, db.0)) (sym same) db.2))
        | inr none ↦
            let h : x ≡ y = omega (arith, ltb-false x y miss, ltb-false y x none) in
            then_equal (nat_cmp x y) (equal x y h) (slice_cmp nat_cmp xs ys)
            ∙ as_many (10 * p + (x - 48)) xs ys same da.2 db.2
            ∙ ap (λ (d : ℕ). nat_cmp (value_from (10 * p + (x - 48)) xs) (value_from (10 * p + (d - 48)) ys)) h
      ]
    ]

-- ---- the order of numbers

pub same_length : (a b : List ℕ) (r o : Ordering) → IsNumber a → IsNumber b → r ≡ nat_cmp (length a) (length b) → r ≡ Equal → o ≡ slice_cmp nat_cmp a b → o ≡ nat_cmp (value_of a) (value_of b)
same_length a b r o ia ib is e c = c ∙ as_many 0 a b (lengths (length a) (length b) (sym is ∙ e)) ia.digits ib.digits
  where
    lengths : (m n : ℕ) → nat_cmp m n ≡ Equal → m ≡ n
    lengths m n e = elim (cases_Bool (nat_lt m n)) [
      | inl hit ↦ let f : Less ≡ Equal = sym (less m n (ltb-true m n hit)) ∙ e in cc
      | inr miss ↦ elim (cases_Bool (nat_lt n m)) [
        | inl hit ↦ let f : Greater ≡ Equal = sym (greater m n (ltb-true n m hit)) ∙ e in cc
        | inr none ↦ omega (arith, ltb-false m n miss, ltb-false n m none)
      ]
    ]

pub other_length : (a b : List ℕ) (r : Ordering) → IsNumber a → IsNumber b → r ≡ nat_cmp (length a) (length b) → r ≢ Equal → r ≡ nat_cmp (value_of a) (value_of b)
other_length a b r ia ib is other = elim (cases_Bool (nat_lt (length a) (length b))) [
  | inl hit ↦
      let h : length a < length b = ltb-true (length a) (length b) hit in
      is ∙ less (length a) (length b) h ∙ sym (less _ _ (fewer a b ia ib h))
  | inr miss ↦ elim (cases_Bool (nat_lt (length b) (length a))) [
    | inl hit ↦
        let h : length b < length a = ltb-true (length b) (length a) hit in
        is ∙ greater (length a) (length b) h ∙ sym (greater _ _ (fewer b a ib ia h))
    | inr none ↦ absurd (other (is ∙ equal (length a) (length b) (omega (arith, ltb-false (length a) (length b) miss, ltb-false (length b) (length a) none))))
  ]
]

-- ---- digits behind others

pub digits_push : (ds : List ℕ) (d : ℕ) → AreDigits ds → 48 ≤ d → d ≤ 57 → AreDigits (ds ++ d ∷ [])
digits_push [] d a h g = (h, g, tt)
digits_push (x ∷ xs) d a h g = (a.0, a.1, digits_push xs d a.2 h g)

first_push : (ds : List ℕ) (d : ℕ) → BeginsAbove ds → (ds ≡ [] → 48 < d) → BeginsAbove (ds ++ d ∷ [])
first_push [] d b h = h refl
first_push (x ∷ xs) d b h = b

pub number_push : (ds : List ℕ) (d : ℕ) → IsNumber ds → 48 ≤ d → d ≤ 57 → (ds ≡ [] → 48 < d) → IsNumber (ds ++ d ∷ [])
number_push ds d i h g first = record { digits = digits_push ds d i.digits h g; first = first_push ds d i.first first }

pub value_push : (n : ℕ) (ds : List ℕ) (d : ℕ) → value_from n (ds ++ d ∷ []) ≡ 10 * value_from n ds + (d - 48)
value_push n [] d = refl
value_push n (x ∷ xs) d = value_push (10 * n + (x - 48)) xs d

digit_from : (d : ℕ) → is_digit d ≡ true → 48 ≤ d
digit_from d e = both (nat_le 48 d) (nat_le d 57) refl e
  where
    both : (a b : Bool) → nat_le 48 d ≡ a → (a && b) ≡ true → 48 ≤ d
    both true b f e = leb-true 48 d f
    both false b f e = absurd cc

digit_to : (d : ℕ) → is_digit d ≡ true → d ≤ 57
digit_to d e = both (nat_le 48 d) (nat_le d 57) refl e
  where
    both : (a b : Bool) → nat_le d 57 ≡ b → (a && b) ≡ true → d ≤ 57
    both true true f e = leb-true d 57 f
    both true false f e = absurd cc
    both false b f e = absurd cc

pub pushed : (ds more : List ℕ) (d : ℕ) → IsNumber ds → is_digit d ≡ true → (ds ≡ [] → d ≢ 48) → more ≡ ds ++ d ∷ [] → IsNumber more
pushed ds more d i digit other is =
    let from : 48 ≤ d = digit_from d digit in
    rw is (number_push ds d i from (digit_to d digit) (λ none. above d from (other none)))
  where
    above : (d : ℕ) → 48 ≤ d → d ≢ 48 → 48 < d
    above d h n = elim (cases_Bool (nat_lt 48 d)) [
      | inl hit ↦ ltb-true 48 d hit
      | inr miss ↦ let same : d ≡ 48 = omega (arith, h, ltb-false 48 d miss) in absurd (n same)
    ]

-- ---- the digits that are left

pub next_digit : (ds : List ℕ) (i : ℕ) → i < length ds → AreDigits (drop i ds) → 48 ≤ get_or ds i 0
next_digit [] i h a = absurd (omega (arith, h))
next_digit (x ∷ xs) zero h a = a.0
next_digit (x ∷ xs) (suc i) h a = next_digit xs i (omega (arith, h)) a

-- where a digit more is too many, so is the whole
pub too_many : (n i : ℕ) (ds : List ℕ) (v : ℕ) → i < length ds → value_from n (drop i ds) ≡ v → 2 ^ 64 ≤ 10 * n + (get_or ds i 0 - 48) → 2 ^ 64 ≤ v
too_many n i [] v h e most = absurd (omega (arith, h))
too_many n zero (x ∷ xs) v h e most = omega (arith, most, e, grows (10 * n + (x - 48)) xs)
too_many n (suc i) (x ∷ xs) v h e most = too_many n i xs v (omega (arith, h)) e most
