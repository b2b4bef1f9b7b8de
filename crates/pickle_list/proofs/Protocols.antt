-- The highest protocol, by the number above it.
use Rattle.std.proofs.Common.{◌≡◌, ℕ, zero, suc, ◌+◌, ◌-◌, None, Some, refl, sym, ap, ◌∙◌, add-one, arith}
use Rattle.std.specs.Prelude.{max}
use Rattle.std.proofs.Math.Nat.{zero-max, suc-max-suc}
use Rattle.pickle_list.specs.Line.{raised}
use Rattle.pickle_list.specs.Inside.Protocol.{below}

pub raised_below : (n p : ℕ) → below (max n (p + 1)) ≡ raised (below n) p
raised_below zero p = ap below (zero-max (p + 1) ∙ add-one p)
raised_below (suc n) p = ap (λ (m : ℕ). below (max (suc n) m)) (add-one p) ∙ ap below (suc-max-suc n p)

pub below_none : (n : ℕ) → n ≡ 0 → None ≡ below n
below_none n e = ap below (sym e)

pub below_some : (n : ℕ) → (n ≡ 0 → ⊥) → Some (n - 1) ≡ below n
below_some zero h = absurd (h refl)
below_some (suc n) h = let e : suc n - 1 ≡ n = omega arith in ap Some e

pub ruleset protocol_steps = (raised_below, below_none, below_some)
