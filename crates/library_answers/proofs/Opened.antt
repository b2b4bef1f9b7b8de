-- A handle that says that a session is open has one.
use Rattle.std.proofs.Common.{◌≡◌, ℕ, refl, arith}
use Rattle.std.specs.Prelude.{Option, Some, None}
use Rattle.library_answers.specs.Talk.{Talk}
use Rattle.library_answers.specs.Owned.{flag_of}

pub has_talk : (n : ℕ) (t : Option Talk) → n ≡ flag_of t → n ≡ 1 → (v : Talk) × (t ≡ Some v)
has_talk n (Some v) e one = (v, refl)
has_talk n None e one = absurd (omega (arith, e, one))
