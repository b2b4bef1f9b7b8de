-- Numbers of hexadecimal digits.
use Rattle.std.proofs.Common.{ℕ, zero, suc, ◌+◌, ◌*◌, ◌<◌, ◌^◌, ◌≡◌, List, [], ◌∷◌, length, drop, get_or, Option, Some, None, refl, sym, ap, ◌∙◌, arith, add-one}
use Rattle.std.proofs.lemmas.List.{drop_more}
use Rattle.pickle_names.specs.Coding.{hex_digit, add_hex, hex_after}

-- what is above the number of so many digits
abbrev pub bound : ℕ → ℕ
bound zero = 1
bound (suc n) = 16 * bound n

pub small : (i n : ℕ) → i < 8 → n < bound i → 16 * n + 15 < 2 ^ 32
small zero n h b = omega (arith, b)
small (suc zero) n h b = omega (arith, b)
small (suc (suc zero)) n h b = omega (arith, b)
small (suc (suc (suc zero))) n h b = omega (arith, b)
small (suc (suc (suc (suc zero)))) n h b = omega (arith, b)
small (suc (suc (suc (suc (suc zero))))) n h b = omega (arith, b)
small (suc (suc (suc (suc (suc (suc zero)))))) n h b = omega (arith, b)
small (suc (suc (suc (suc (suc (suc (suc zero))))))) n h b = omega (arith, b)
small (suc (suc (suc (suc (suc (suc (suc (suc i)))))))) n h b = absurd (omega (arith, h))

pub more : (i n d : ℕ) → n < bound i → d < 16 → 16 * n + d < bound (i + 1)
more i n d b h = rw (add-one i) (omega (arith, b, h))

none_after : (digits : List ℕ) → hex_after None digits ≡ None
none_after [] = refl
none_after (d ∷ digits) = none_after digits

-- a byte that is no digit
pub fails : (digits : List ℕ) (i n : ℕ) → i < length digits → None ≡ hex_digit (get_or digits i 0) → hex_after (Some n) (drop i digits) ≡ hex_after (Some 0) digits
    → None ≡ hex_after (Some 0) digits
fails digits i n h e v =
    let step : hex_after (add_hex (Some n) (hex_digit (get_or digits i 0))) (drop (i + 1) digits) ≡ hex_after (Some 0) digits = rw (drop_more digits i 0 h) at v in
    let none : hex_after (add_hex (Some n) (hex_digit (get_or digits i 0))) (drop (i + 1) digits) ≡ None =
    ap (λ (x : Option ℕ). hex_after (add_hex (Some n) x) (drop (i + 1) digits)) (sym e) ∙ none_after (drop (i + 1) digits) in
    sym none ∙ step

pub ruleset number_steps = (small, more)
