-- Literals of floats.
use Rattle.std.proofs.Common.{◌≡◌, ℕ, ◌+◌, ◌-◌, ◌<◌, ◌≤◌, Bool, true, false, ◌&&◌, ◌||◌, List, [], ◌∷◌, ◌++◌, length, drop, get_or, Option, Some, None, inl, inr, refl, sym, ap, ◌∙◌, append_assoc, subst, arith}
use Rattle.std.specs.Prelude.{nat_lt, nat_le, ◌==◌, if◌then◌else◌, from_bits, ◌⊎◌}
use Rattle.std.specs.List.{list_any}
use Rattle.std.specs.Char.{digit_value, is_ascii_digit}
use Rattle.std.specs.Fmt.{sign_text}
use Rattle.std.specs.Float.{binary64, float_is_finite}
use Rattle.std.specs.Float.Ieee.{Float}
use Rattle.std.specs.Float.Parse.{parse_float, completes_number, float_scan_step}
use Rattle.std.specs.Float.Numeral.{Parts, text_of, exponent_text, IsWellFormed}
use Rattle.std.specs.Str.Parse.{AllDigits}
use Rattle.std.proofs.lemmas.Bool.{ne_eqb, eq-eqb, le-leb, and_from}
use Rattle.std.proofs.lemmas.Str.Parse.{digit_from_value}
use Rattle.ryu.specs.Plain.{IsPlain, IsPlainNumber}
use Rattle.python_literals.specs.Grammar.{is_mark, has_minus, unsigned, is_float_literal, reads_float}
use Rattle.python_literals.specs.Floats.{IsDoubleText, word_text}
use Rattle.python_literals.specs.Laws.{FloatReadBack}

-- ---- what `ryu` writes is a literal

-- digits keep a reader where it is
digit_is : (c : ℕ) → digit_value c < 10 → is_ascii_digit c ≡ true
digit_is c h = let r = digit_from_value c h in and_from _ _ (le-leb 48 c r.0) (le-leb c 57 r.1)

-- where a reader is behind one, before a point, behind it, in an exponent, and at the beginning
record Stays (c : ℕ) : Type 0 where
  first : float_scan_step 0 c ≡ 1
  whole : float_scan_step 1 c ≡ 1
  fraction : float_scan_step 3 c ≡ 3
  letter : float_scan_step 4 c ≡ 6
  sign : float_scan_step 5 c ≡ 6
  exponent : float_scan_step 6 c ≡ 6

stays : (c : ℕ) → digit_value c < 10 → Stays c
stays c h =
    let d = digit_is c h in
    record { first = rw d refl; whole = rw d refl; fraction = rw d refl; letter = rw d refl; sign = rw d refl; exponent = rw d refl }

digits_whole : (ds rest : List ℕ) → AllDigits 10 ds → completes_number 1 (ds ++ rest) ≡ completes_number 1 rest
digits_whole [] rest h = refl
digits_whole (d ∷ ds) rest h = ap (λ (k : ℕ). completes_number k (ds ++ rest)) (stays d h.0).whole ∙ digits_whole ds rest h.1

digits_fraction : (ds rest : List ℕ) → AllDigits 10 ds → completes_number 3 (ds ++ rest) ≡ completes_number 3 rest
digits_fraction [] rest h = refl
digits_fraction (d ∷ ds) rest h = ap (λ (k : ℕ). completes_number k (ds ++ rest)) (stays d h.0).fraction ∙ digits_fraction ds rest h.1

digits_exponent : (ds : List ℕ) → AllDigits 10 ds → completes_number 6 ds ≡ true
digits_exponent [] h = refl
digits_exponent (d ∷ ds) h = ap (λ (k : ℕ). completes_number k ds) (stays d h.0).exponent ∙ digits_exponent ds h.1

first_whole : (ds rest : List ℕ) → 0 < length ds → AllDigits 10 ds → completes_number 0 (ds ++ rest) ≡ completes_number 1 rest
first_whole [] rest some h = absurd (omega (arith, some))
first_whole (d ∷ ds) rest some h = ap (λ (k : ℕ). completes_number k (ds ++ rest)) (stays d h.0).first ∙ digits_whole ds rest h.1

-- an exponent, behind the whole part or a fraction
exponent_done : (s : ℕ) (n : Bool) (ds : List ℕ) → (s ≡ 1) ⊎ (s ≡ 3) → AllDigits 10 ds → completes_number s (exponent_text n ds) ≡ true
exponent_done s n [] h a = elim h [ inl e ↦ rw e refl | inr e ↦ rw e refl ]
exponent_done s true (d ∷ ds) h a =
    let last : completes_number 5 (d ∷ ds) ≡ true = ap (λ (k : ℕ). completes_number k ds) (stays d a.0).sign ∙ digits_exponent ds a.1 in
    elim h [ inl e ↦ rw e last | inr e ↦ rw e last ]
exponent_done s false (d ∷ ds) h a =
    let last : completes_number 4 (d ∷ ds) ≡ true = ap (λ (k : ℕ). completes_number k ds) (stays d a.0).letter ∙ digits_exponent ds a.1 in
    elim h [ inl e ↦ rw e last | inr e ↦ rw e last ]

tail_done : (p : Parts) (point : Bool) → p.point ≡ point → IsWellFormed p → completes_number 1 ((if point then 46 ∷ p.fraction else []) ++ exponent_text p.exponent_negative p.exponent) ≡ true
tail_done p true e w = digits_fraction p.fraction (exponent_text p.exponent_negative p.exponent) w.fraction_digits ∙ exponent_done 3 p.exponent_negative p.exponent (inr refl) w.exponent_digits
tail_done p false e w = exponent_done 1 p.exponent_negative p.exponent (inl refl) w.exponent_digits

completes : (p : Parts) → IsPlain p → completes_number 0 (text_of p) ≡ true
completes p h =
    first_whole p.whole ((if p.point then 46 ∷ p.fraction else []) ++ exponent_text p.exponent_negative p.exponent) h.whole h.well_formed.whole_digits
    ∙ tail_done p p.point refl h.well_formed

-- a point, or the letter of an exponent
any_behind : (xs ys : List ℕ) → list_any is_mark ys ≡ true → list_any is_mark (xs ++ ys) ≡ true
any_behind [] ys h = h
any_behind (x ∷ xs) ys h = rw (any_behind xs ys h) (or_true (is_mark x))
  where
    or_true : (b : Bool) → (b || true) ≡ true
    or_true true = refl
    or_true false = refl

exponent_mark : (n : Bool) (ds : List ℕ) → 0 < length ds → list_any is_mark (exponent_text n ds) ≡ true
exponent_mark n [] h = absurd (omega (arith, h))
exponent_mark n (d ∷ ds) h = refl

tail_mark : (p : Parts) (point : Bool) → p.point ≡ point → IsPlain p → list_any is_mark ((if point then 46 ∷ p.fraction else []) ++ exponent_text p.exponent_negative p.exponent) ≡ true
tail_mark p true e h = refl
tail_mark p false e h = exponent_mark p.exponent_negative p.exponent (h.marked e)

literal : (p : Parts) → IsPlain p → is_float_literal (text_of p) ≡ true
literal p h =
    and_from (completes_number 0 (text_of p)) (list_any is_mark (text_of p)) (completes p h)
    (any_behind p.whole ((if p.point then 46 ∷ p.fraction else []) ++ exponent_text p.exponent_negative p.exponent) (tail_mark p p.point refl h))

-- no minus before a digit
digit_first : (ds rest : List ℕ) → 0 < length ds → AllDigits 10 ds → has_minus (ds ++ rest) ≡ false
digit_first [] rest some h = absurd (omega (arith, some))
digit_first (d ∷ ds) rest some h = let r = digit_from_value d h.0 in ne_eqb d 45 (λ e. omega (arith, e, r.0))

unsigned_is : (negative : Bool) (p : Parts) → IsPlain p → unsigned (sign_text negative ++ text_of p) ≡ text_of p
unsigned_is true p h = refl
unsigned_is false p h =
    ap (λ (b : Bool). drop (if b then 1 else 0) (text_of p))
    (digit_first p.whole ((if p.point then 46 ∷ p.fraction else []) ++ exponent_text p.exponent_negative p.exponent) h.whole h.well_formed.whole_digits)

pub plain_read : (text : List ℕ) (x : Float) → IsPlainNumber text → parse_float binary64 text ≡ Some x → reads_float text ≡ Some x
unfolding reads_float
plain_read text x h e =
    let is : is_float_literal (unsigned text) ≡ true = ap is_float_literal (ap unsigned h.2 ∙ unsigned_is h.0 h.1 h.3) ∙ literal h.1 h.3 in
    ap (λ (b : Bool). if b then parse_float binary64 text else None) is ∙ e

-- ---- laws

pub floats_read_back : FloatReadBack
floats_read_back bits text h e = rw e at h
