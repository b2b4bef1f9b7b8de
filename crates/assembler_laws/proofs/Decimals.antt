-- Numbers in decimal digits are read back.
use Rattle.std.proofs.Common.{◌≡◌, ℕ, ◌<◌, ◌≤◌, ◌^◌, ◌==◌, ◌||◌, Bool, true, false, List, length, Some, None, ap, ◌∙◌, arith, rules}
use Rattle.std.specs.Prelude.{nat_le, decimal, if◌then◌else◌}
use Rattle.std.specs.List.{list_all, fold}
use Rattle.std.proofs.lemmas.Bool.{and_parts, and_from, leb-true, lt-ltb, ne_eqb, or_from, not_from_false}
use Rattle.std.proofs.lemmas.Fmt.{decimal_is_IsNumeral_wide}
use Rattle.std.proofs.lemmas.Str.Parse.{IsNumeralModel, numerals_by_fold}
use Rattle.pickle_ops.specs.Shape.{is_digit, add_digit, value_of, is_decimal, decimal_of}
use Rattle.opcode_assembler.specs.Words.{is_blank, is_letter}
use Rattle.opcode_assembler.specs.Numbers.{is_wide, wide_of}
use Rattle.assembler_laws.proofs.Spans.{all_also}

own : IsNumeralModel (λ ds. list_all is_digit ds ≡ true) (fold add_digit 0)
own = numerals_by_fold (λ ds. list_all is_digit ds ≡ true) (search rules) (fold add_digit) (search rules)

-- ---- of up to 64 digits

pub some_digits : (n : ℕ) → n < 10 ^ 64 → 0 < length (decimal n)
some_digits n h = (decimal_is_IsNumeral_wide n h).0.0

pub all_digits : (n : ℕ) → n < 10 ^ 64 → list_all is_digit (decimal n) ≡ true
all_digits n h = own.from (decimal n) (decimal_is_IsNumeral_wide n h).0.1

pub value_is : (n : ℕ) → n < 10 ^ 64 → value_of (decimal n) ≡ n
value_is n h =
    let both = decimal_is_IsNumeral_wide n h in
    own.same (decimal n) both.0.1 ∙ both.1

pub digit_letter : (byte : ℕ) → is_digit byte ≡ true → is_letter byte ≡ true
digit_letter byte h =
    let both = and_parts (nat_le 48 byte) (nat_le byte 57) h in
    let low : 48 ≤ byte = leb-true 48 byte both.0 in
    let a = ne_eqb byte 32 (λ e. omega (arith, low, e)) in
    let b = ne_eqb byte 9 (λ e. omega (arith, low, e)) in
    let c = ne_eqb byte 13 (λ e. omega (arith, low, e)) in
    not_from_false (is_blank byte) (or_from (byte == 32 || byte == 9) (byte == 13) (or_from (byte == 32) (byte == 9) a b) c)

pub digits_letters : (w : List ℕ) → list_all is_digit w ≡ true → list_all is_letter w ≡ true
digits_letters w h = all_also is_digit is_letter w digit_letter h

-- ---- of 64 bits, and of 128

some_if : (b : Bool) (n m : ℕ) → b ≡ true → n ≡ m → (if b then Some n else None) ≡ Some m
some_if true n m e f = ap Some f
some_if false n m e f = absurd cc

pub decimal_read : (n : ℕ) → n < 2 ^ 64 → decimal_of (decimal n) ≡ Some n
decimal_read n h =
    let l : n < 10 ^ 64 = omega (arith, h) in
    let v = value_is n l in
    let small : value_of (decimal n) < 2 ^ 64 = rw v h in
    some_if (is_decimal (decimal n)) (value_of (decimal n)) n
    (and_from _ _ (and_from _ _ (lt-ltb 0 (length (decimal n)) (some_digits n l)) (all_digits n l)) (lt-ltb (value_of (decimal n)) (2 ^ 64) small)) v

pub wide_read : (n : ℕ) → n < 2 ^ 128 → wide_of (decimal n) ≡ Some n
wide_read n h =
    let l : n < 10 ^ 64 = omega (arith, h) in
    let v = value_is n l in
    let small : value_of (decimal n) < 2 ^ 128 = rw v h in
    some_if (is_wide (decimal n)) (value_of (decimal n)) n
    (and_from _ _ (and_from _ _ (lt-ltb 0 (length (decimal n)) (some_digits n l)) (all_digits n l)) (lt-ltb (value_of (decimal n)) (2 ^ 128) small)) v
