-- The flags of two bytes.
use Rattle.std.proofs.Common.{◌≡◌, ℕ, Bool, ◌+◌, ◌*◌, ◌/◌, ◌%◌, ◌<◌, refl, arith}
use Rattle.std.specs.Prelude.{◌==◌}
use Rattle.pickle_gate.specs.declared.packed.Kept.{Kept}
use Rattle.pickle_gate.specs.Packed.{uses_in, unpacked}

pub packed_is : (a b done : ℕ) (k : Kept) → uses_in a ≡ k.grant.now → uses_in b ≡ k.grant.made → a < 16 → (done % 2 == 1) ≡ k.ready → (done / 2 % 2 == 1) ≡ k.used → (done / 4 % 2 == 1) ≡ k.named → unpacked (a + 16 * b) done ≡ k
packed_is a b done k p q h r u n =
    let low : (a + 16 * b) % 16 ≡ a = omega (arith, h) in
    let high : (a + 16 * b) / 16 ≡ b = omega (arith, h) in
    rw (low, high, p, q, r, u, n) refl
