-- Numbers and their bytes, the lowest first.
use Rattle.std.proofs.Common.{◌≡◌, ℕ, zero, suc, ◌+◌, ◌*◌, ◌<◌, ◌≤◌, ◌^◌, ◌/◌, ◌%◌, List, [], ◌∷◌, length, take, drop, refl, sym, ap, ap₂, ◌∙◌, arith}
use Rattle.std.proofs.Math.Nat.{div-div-eq-div-mul, div-one, pow-succ'}
use Rattle.std.proofs.lemmas.List.{length-take-le}
use Rattle.std.specs.Int.{byte_at, bytes_low_first}
use Rattle.hex.specs.Hex.{IsBytes}
use Rattle.byteorder.specs.Endian.{little_bytes, little_number}
use Rattle.byteorder.specs.Numbers.{little_from-cons, little_from-take, little_from-lt}

-- the number of bytes, all of them
abbrev pub number : List ℕ → ℕ
number [] = 0
number (b ∷ bs) = b + 256 * number bs

pub number_is : (bs : List ℕ) → little_number (length bs) bs ≡ number bs
number_is [] = refl
number_is (b ∷ bs) = ap (λ (n : ℕ). b + 256 * n) (little_from-cons 0 (length bs) b bs ∙ number_is bs)

-- ---- and back

byte_by_place : (k x : ℕ) → byte_at k x ≡ x / 256 ^ k % 256
byte_by_place zero x = ap (λ (y : ℕ). y % 256) (sym (div-one x))
byte_by_place (suc k) x = refl

-- a byte less, the number has its other bytes one place lower
lower : (i n x : ℕ) → bytes_low_first (suc i) n x ≡ bytes_low_first i n (x / 256)
lower i zero x = refl
lower i (suc n) x =
    let shift : x / 256 ^ suc i ≡ x / 256 / 256 ^ i = ap (λ (p : ℕ). x / p) (pow-succ' 256 i) ∙ sym (div-div-eq-div-mul x 256 (256 ^ i)) in
    let byte : byte_at (suc i) x ≡ byte_at i (x / 256) = ap (λ (y : ℕ). y % 256) shift ∙ sym (byte_by_place i (x / 256)) in
    ap₂ (λ (c : ℕ) (l : List ℕ). c ∷ l) byte (lower (suc i) n x)

pub back : (bs : List ℕ) → IsBytes bs → little_bytes (length bs) (number bs) ≡ bs
back [] h = refl
back (b ∷ bs) h =
    let small : b < 256 = h 0 in
    let low : (b + 256 * number bs) % 256 ≡ b = omega (arith, small) in
    let high : (b + 256 * number bs) / 256 ≡ number bs = omega (arith, small) in
    ap₂ (λ (c : ℕ) (l : List ℕ). c ∷ l) low
    (lower 0 (length bs) (b + 256 * number bs) ∙ ap (bytes_low_first 0 (length bs)) high ∙ back bs (λ i. h (suc i)))

-- ---- the first bytes of some

bytes_take : (bs : List ℕ) (n : ℕ) → IsBytes bs → IsBytes (take n bs)
bytes_take bs zero h i = omega arith
bytes_take [] (suc n) h i = omega arith
bytes_take (b ∷ bs) (suc n) h zero = h 0
bytes_take (b ∷ bs) (suc n) h (suc i) = bytes_take bs n (λ k. h (suc k)) i

pub number_first : (n : ℕ) (bs : List ℕ) → n ≤ length bs → little_number n bs ≡ number (take n bs)
number_first n bs h =
    sym (little_from-take 0 n n bs (omega arith)) ∙ ap (λ (k : ℕ). little_number k (take n bs)) (sym (length-take-le n bs h)) ∙ number_is (take n bs)

pub back_first : (n : ℕ) (bs : List ℕ) → IsBytes bs → n ≤ length bs → little_bytes n (little_number n bs) ≡ take n bs
back_first n bs h l =
    ap (λ (x : ℕ). little_bytes n x) (number_first n bs l) ∙ ap (λ (k : ℕ). little_bytes k (number (take n bs))) (sym (length-take-le n bs l))
    ∙ back (take n bs) (bytes_take bs n h)

pub below : (n : ℕ) (bs : List ℕ) → IsBytes bs → little_number n bs < 256 ^ n
below n bs h = little_from-lt 0 n bs h

pub drop_bytes : (n : ℕ) (bs : List ℕ) → IsBytes bs → IsBytes (drop n bs)
drop_bytes zero bs h = h
drop_bytes (suc n) [] h = h
drop_bytes (suc n) (b ∷ bs) h = drop_bytes n bs (λ i. h (suc i))

pub take_bytes : (n : ℕ) (bs : List ℕ) → IsBytes bs → IsBytes (take n bs)
take_bytes n bs h = bytes_take bs n h
