-- digits that spell too much, and digits that do not
use Rattle.std.proofs.Common.{◌≡◌, ◌+◌, ◌^◌, ◌<◌, ◌≤◌, ℕ, Bool, true, false, List, [], ◌∷◌, length, drop, get_or, Some, None, ap, sym, ◌∙◌, arith}
use Rattle.std.specs.Prelude.{if◌then◌else◌}
use Rattle.std.specs.List.{fold, list_all}
use Rattle.std.proofs.lemmas.Bool.{lt-ltb, le-ltb, and_right, and_from}
use Rattle.std.proofs.lemmas.List.{drop_more, at_drop_all}
use Rattle.pickle_ops.specs.Shape.{is_digit, add_digit, value_of}
use Rattle.opcode_assembler.specs.Numbers.{is_wide, wide_of}

-- more digits make no smaller number
grows : (v : ℕ) (xs : List ℕ) → v ≤ fold add_digit v xs
grows v [] = omega arith
grows v (x ∷ xs) = omega (arith, grows (add_digit v x) xs)

pub too_large : (text : List ℕ) (i v : ℕ) → i < length text → fold add_digit v (drop i text) ≡ value_of text
    → 2 ^ 128 ≤ add_digit v (get_or text i 0) → false ≡ is_wide text
too_large text i v h e big =
    let step : fold add_digit (add_digit v (get_or text i 0)) (drop (i + 1) text) ≡ value_of text = rw (drop_more text i 0 h) at e in
    let more = grows (add_digit v (get_or text i 0)) (drop (i + 1) text) in
    let large : 2 ^ 128 ≤ value_of text = omega arith in
    sym (and_right _ _ (le-ltb (value_of text) (2 ^ 128) large))

pub all_read : (text : List ℕ) (i v : ℕ) → 0 < length text → length text ≤ i → v < 2 ^ 128
    → fold add_digit v (drop i text) ≡ value_of text → list_all is_digit (drop i text) ≡ list_all is_digit text → true ≡ is_wide text
all_read text i v some all small e d =
    let digits : list_all is_digit text ≡ true = sym d ∙ at_drop_all (list_all is_digit) text i all in
    let value : value_of text ≡ v = sym e ∙ at_drop_all (fold add_digit v) text i all in
    let fits : value_of text < 2 ^ 128 = omega arith in
    sym (and_from _ _ (and_from _ _ (lt-ltb 0 (length text) some) digits) (lt-ltb (value_of text) (2 ^ 128) fits))

-- ---- the number of a text

pub no_wide : (text : List ℕ) → false ≡ is_wide text → None ≡ wide_of text
no_wide text e = ap (λ (t : Bool). if t then Some (value_of text) else None) e

pub a_wide : (text : List ℕ) (value : ℕ) → true ≡ is_wide text → value_of text ≡ value → Some value ≡ wide_of text
a_wide text value e v = ap Some (sym v) ∙ ap (λ (t : Bool). if t then Some (value_of text) else None) e
