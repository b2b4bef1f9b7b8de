-- Lists that are cut at nothing, and what comes by a test.
use Rattle.std.proofs.Common.{◌≡◌, ℕ, zero, suc, Bool, true, false, List, [], ◌∷◌, take, drop, refl, arith}
use Rattle.std.specs.Prelude.{◌==◌, MatchBool}

pub drop_zero : (xs : List ℕ) → drop 0 xs ≡ xs
drop_zero [] = refl
drop_zero (x ∷ xs) = refl

pub drop_none : (n : ℕ) → drop {A = ℕ} n [] ≡ []
drop_none zero = refl
drop_none (suc n) = refl

pub take_none : (n : ℕ) → take {A = ℕ} n [] ≡ []
take_none zero = refl
take_none (suc n) = refl

pub zero_only : (n : ℕ) → (n == 0) ≡ true → n ≡ 0
zero_only n e = grind arith

-- a test cannot come out both ways
pub no_two : (b : Bool) → b ≡ true → b ≡ false → ⊥
no_two true t f = absurd cc
no_two false t f = absurd cc

-- by a test
pub by_last : {A : Type 0} {B : Type 0} {C : Type 0} (b : Bool) → MatchBool b A B → (b ≡ true → A → C) → (b ≡ false → B → C) → C
by_last true x f g = f refl x
by_last false x f g = g refl x
