-- A part that is copied to a place of a text, and of which a front counts.
use Rattle.std.proofs.Common.{◌≡◌, ℕ, ◌+◌, ◌≤◌, List, ◌++◌, length, take, sym, ap, ◌∙◌, arith}
use Rattle.std.proofs.lemmas.List.{take-take, length-take}
use Rattle.std.proofs.Math.Nat.{min-eq_left}
use Rattle.std.proofs.Math.Seq.{take-append-add}

pub front_copied : (at n : ℕ) (text part whole : List ℕ) → at ≤ length text → n ≤ length part → take (at + length part) whole ≡ take at text ++ part
    → take (at + n) whole ≡ take at text ++ take n part
front_copied at n text part whole far few e =
    let len : length (take at text) ≡ at = length-take at text ∙ min-eq_left {n = at} {m = length text} far in
    sym (take-take (at + n) (at + length part) whole (omega (arith, few)))
    ∙ ap (λ (l : List ℕ). take (at + n) l) e
    ∙ ap (λ (k : ℕ). take (k + n) (take at text ++ part)) (sym len)
    ∙ take-append-add (take at text) part n
