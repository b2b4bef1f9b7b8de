-- Numbers at the end of a piece.
use Rattle.std.proofs.Common.{◌≡◌, ℕ, ◌+◌, ◌-◌, ◌<◌, ◌≤◌, List, ◌++◌, length, take, drop, ap, ◌∙◌, arith, subst}
use Rattle.std.proofs.lemmas.List.{take-append-le, take-take}
use Rattle.std.proofs.lemmas.Fmt.{length-decimal-le}
use Rattle.std.proofs.Math.Seq.{take-length}
use Rattle.std.specs.Prelude.{decimal, ◌^◌}
use Rattle.pickle_io.specs.Device.{Told, Wrote}

pub digits_fit : (n : ℕ) → n < 2 ^ 64 → (length (decimal n) ≤ 20) × (20 ≤ 40)
digits_fit n h = (length-decimal-le 20 n (omega arith) (omega (arith, h)) h, omega arith)

-- what was written at the end of the first twenty bytes
digits_there : (n start m : ℕ) (piece more : List ℕ) → start + length (decimal n) ≡ 20 → drop start piece ≡ decimal n ++ more → m ≡ 20
    → take (20 - start) (take m (drop start piece)) ≡ decimal n
digits_there n start m piece more h e is =
    let count : 20 - start ≡ length (decimal n) = omega (arith, h) in
    ap (λ (k : ℕ). take (20 - start) (take k (drop start piece))) is
    ∙ take-take (20 - start) 20 (drop start piece) (omega arith) ∙ ap (λ (k : ℕ). take k (drop start piece)) count ∙ ap (λ (l : List ℕ). take (length (decimal n)) l) e
    ∙ take-append-le (length (decimal n)) (decimal n) more (omega arith) ∙ take-length (decimal n)

pub digits_sliced : (a b : Told) (n start m : ℕ) (piece more : List ℕ) → start + length (decimal n) ≡ 20 → drop start piece ≡ decimal n ++ more
    → Wrote a b (take (20 - start) (take m (drop start piece))) → m ≡ 20 → Wrote a b (decimal n)
digits_sliced a b n start m piece more h e w is = subst (Wrote a b) (digits_there n start m piece more h e is) w

pub digits_written : (a b : Told) (n start : ℕ) (piece old : List ℕ) → start + length (decimal n) ≡ 20 → drop start piece ≡ decimal n ++ drop 20 old
    → Wrote a b (take (20 - start) (take 20 (drop start piece))) → Wrote a b (decimal n)
digits_written a b n start piece old h e w = digits_sliced a b n start 20 piece (drop 20 old) h e w (omega arith)

pub ruleset number_steps = (digits_fit, digits_written)
