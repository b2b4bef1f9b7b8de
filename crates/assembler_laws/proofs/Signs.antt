-- Numbers with a sign are read back.
use Rattle.std.proofs.Common.{◌≡◌, ℕ, pos, negsuc, suc, ◌-◌, ◌*◌, ◌^◌, ◌<◌, ◌≤◌, Bool, true, false, List, ◌∷◌, length, drop, Some, Ok, Err, refl, ap, ◌∙◌, arith}
use Rattle.std.specs.Prelude.{decimal, if◌then◌else◌, ◌-ℤ◌}
use Rattle.std.specs.Fmt.{signed_decimal}
use Rattle.std.specs.List.{list_all}
use Rattle.std.specs.Option.{option_map_or}
use Rattle.std.proofs.lemmas.Bool.{lt-ltb, le-ltb, le-leb, ne_eqb, and_from}
use Rattle.std.proofs.lemmas.Int.{ints}
use Rattle.byteorder.specs.Endian.{little_bytes, twos_complement}
use Rattle.pickle_ops.specs.Shape.{is_digit}
use Rattle.opcode_assembler.specs.declared.fault.Reason.TheVariants as why
use Rattle.opcode_assembler.specs.Words.{is_letter}
use Rattle.opcode_assembler.specs.Numbers.{has_minus, unsigned, wide_of, twos_of, signed_bytes, signed_word}
use Rattle.assembler_laws.proofs.Decimals.{some_digits, all_digits, digits_letters, wide_read}
use Rattle.assembler_laws.proofs.Fronts.{Head, digit_first, digit_other, digits_head}

-- ---- words

-- without a sign
no_minus : (w : List ℕ) → list_all is_digit w ≡ true → 0 < length w → has_minus w ≡ false
no_minus w h l =
    let d = digit_first w h l in
    ap has_minus d.is ∙ digit_other 45 d.first d.digit refl

unsigned_is : (w : List ℕ) → has_minus w ≡ false → unsigned w ≡ w
unsigned_is w e = ap (λ (b : Bool). if b then drop 1 w else w) e

twos_plain : (width n : ℕ) → n < 2 ^ (8 * width - 1) → twos_of width false n ≡ Some n
twos_plain width n h = rw (lt-ltb n (2 ^ (8 * width - 1)) h) refl

pub plain_word : (width n : ℕ) → n < 2 ^ (8 * width - 1) → n < 2 ^ 128 → signed_word width (decimal n) ≡ Ok (little_bytes width n)
plain_word width n h k =
    let l : n < 10 ^ 64 = omega (arith, k) in
    let w = decimal n in
    let m = no_minus w (all_digits n l) (some_digits n l) in
    let read : wide_of (unsigned w) ≡ Some n = ap wide_of (unsigned_is w m) ∙ wide_read n k in
    ap (λ o. option_map_or (signed_bytes width w) o (Err why.NoNumber)) read
    ∙ ap (λ (b : Bool). option_map_or (λ (x : ℕ). Ok (little_bytes width x)) (twos_of width b n) (Err why.NumberTooLarge)) m
    ∙ ap (λ o. option_map_or (λ (x : ℕ). Ok (little_bytes width x)) o (Err why.NumberTooLarge)) (twos_plain width n h)

-- with one
twos_minus : (width n : ℕ) → 0 < n → n ≤ 2 ^ (8 * width - 1) → twos_of width true n ≡ Some (2 ^ (8 * width) - n)
twos_minus width n p h =
    let some = ne_eqb n 0 (λ e. omega (arith, p, e)) in
    rw (le-leb n (2 ^ (8 * width - 1)) h, some) refl

pub minus_word : (width n : ℕ) → 0 < n → n ≤ 2 ^ (8 * width - 1) → n < 2 ^ 128 → signed_word width (45 ∷ decimal n) ≡ Ok (little_bytes width (2 ^ (8 * width) - n))
minus_word width n p h k =
    ap (λ o. option_map_or (signed_bytes width (45 ∷ decimal n)) o (Err why.NoNumber)) (wide_read n k)
    ∙ ap (λ o. option_map_or (λ (x : ℕ). Ok (little_bytes width x)) o (Err why.NumberTooLarge)) (twos_minus width n p h)

-- ---- two's complement

negative : (x m : ℕ) → x < m → pos x -ℤ pos m ≡ negsuc (m - x - 1)
negative x m h = omega (arith, ints, h)

pub low_text : (n x : ℕ) → x < 2 ^ (8 * n - 1) → signed_decimal (twos_complement n x) ≡ decimal x
low_text n x h = ap (λ (b : Bool). signed_decimal (if b then pos x else (pos x -ℤ pos (2 ^ (8 * n))))) (lt-ltb x (2 ^ (8 * n - 1)) h)

pub high_text : (n x : ℕ) → 2 ^ (8 * n - 1) ≤ x → x < 2 ^ (8 * n) → signed_decimal (twos_complement n x) ≡ 45 ∷ decimal (2 ^ (8 * n) - x)
high_text n x h k =
    let last : suc (2 ^ (8 * n) - x - 1) ≡ 2 ^ (8 * n) - x = omega (arith, k) in
    ap (λ (b : Bool). signed_decimal (if b then pos x else (pos x -ℤ pos (2 ^ (8 * n))))) (le-ltb x (2 ^ (8 * n - 1)) h)
    ∙ ap signed_decimal (negative x (2 ^ (8 * n)) k) ∙ ap (λ (m : ℕ). 45 ∷ decimal m) last

-- ---- what the text of a number begins with

pub decimal_head : (n : ℕ) → n < 10 ^ 64 → Head (decimal n)
decimal_head n h = digits_head (decimal n) (all_digits n h) (some_digits n h)

pub minus_head : (t : List ℕ) → Head (45 ∷ t)
minus_head t = record { first = 45; more = t; is = refl; letter = refl; other = refl }

pub minus_letters : (n : ℕ) → n < 10 ^ 64 → list_all is_letter (45 ∷ decimal n) ≡ true
minus_letters n h = and_from true (list_all is_letter (decimal n)) refl (digits_letters (decimal n) (all_digits n h))
