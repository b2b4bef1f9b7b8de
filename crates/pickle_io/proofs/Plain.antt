-- Bytes that stand for themselves between quotes.
use Rattle.std.proofs.Common.{◌≡◌, ℕ, zero, suc, ◌+◌, ◌-◌, ◌<◌, ◌≤◌, Bool, true, false, ◌&&◌, T, eqb, List, [], ◌∷◌, ◌++◌, length, take, get_or, refl, ap, ◌∙◌, inl, inr, arith, eq-zero-or-pos}
use Rattle.std.specs.Prelude.{nat_le, ◌==◌, if◌then◌else◌}
use Rattle.std.proofs.lemmas.List.{take_more, take_all}
use lib.Ieee.Fits.{and_l, and_r}
use Rattle.pickle_io.specs.Text.{quoted_byte, quoted_bytes}
use Rattle.pickle_io.proofs.Texts.{quoted_bytes-append, quoted_bytes-one}
use Rattle.pickle_io.specs.declared.text.TheConstants.{PLAIN}

abbrev stands : ℕ → Bool
stands b = if b == 92 then false else if b == 39 then false else nat_le 32 b && nat_le b 126

stands_by : (b : ℕ) (x y z : Bool) → (b == 92) ≡ x → (b == 39) ≡ y → (nat_le 32 b && nat_le b 126) ≡ z → stands b ≡ true → quoted_byte b ≡ b ∷ []
unfolding quoted_byte
stands_by b false false true e f g h = rw (e, f, g) refl
stands_by b false false false e f g h = absurd cc
stands_by b false true z e f g h = absurd cc
stands_by b true y z e f g h = absurd cc

stands_there : (b : ℕ) → stands b ≡ true → quoted_byte b ≡ b ∷ []
stands_there b h = stands_by b (b == 92) (b == 39) (nat_le 32 b && nat_le b 126) refl refl refl h

abbrev agrees : ℕ → Bool
agrees b = if eqb (get_or PLAIN b 0) 49 then stands b else true

abbrev all_agree : ℕ → Bool
all_agree zero = true
all_agree (suc b) = agrees b && all_agree b

agrees_below : (n b : ℕ) → T (all_agree n) → b < n → T (agrees b)
agrees_below zero b t h = absurd (omega arith)
agrees_below (suc n) b t h =
    elim (eq-zero-or-pos (n - b)) [
      | inl z ↦ let e : b ≡ n = omega arith in rw e (and_l _ (all_agree n) t)
      | inr g ↦ agrees_below n b (and_r _ (all_agree n) t) (omega arith)
    ]

is_true : (x : Bool) → T x → x ≡ true
is_true true t = refl
is_true false t = absurd t

plain_there : (b : ℕ) → b < 256 → get_or PLAIN b 0 ≡ 49 → quoted_byte b ≡ b ∷ []
plain_there b low h =
    let t : T (if eqb (get_or PLAIN b 0) 49 then stands b else true) = agrees_below 256 b tt low in
    let u : T (if eqb 49 49 then stands b else true) = rw h at t in
    stands_there b (is_true (stands b) u)

pub plain_none : quoted_bytes [] ≡ []
unfolding quoted_bytes
plain_none = refl

pub plain_more : (xs : List ℕ) (i : ℕ) → i < length xs → get_or xs i 0 < 256 → get_or PLAIN (get_or xs i 0) 0 ≡ 49 → quoted_bytes (take i xs) ≡ take i xs
    → quoted_bytes (take (i + 1) xs) ≡ take (i + 1) xs
plain_more xs i h low is w =
    rw (take_more xs i 0 h) (quoted_bytes-append (take i xs) (get_or xs i 0 ∷ [])
    ∙ ap (λ (l : List ℕ). l ++ quoted_bytes (get_or xs i 0 ∷ [])) w
    ∙ ap (λ (l : List ℕ). take i xs ++ l) (quoted_bytes-one (get_or xs i 0) ∙ plain_there (get_or xs i 0) low is))

pub plain_all : (xs : List ℕ) (i : ℕ) → length xs ≤ i → quoted_bytes (take i xs) ≡ take i xs → quoted_bytes xs ≡ xs
plain_all xs i h w = rw (take_all i xs h) at w
