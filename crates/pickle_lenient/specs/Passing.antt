-- Opcodes that loaders take alike which keep frames in a buffer, whether they have bytes of a frame there or not.
-- Source: own. What is taken `buffered` says, with its sources.
use Rattle.std.specs.Prelude.{◌≡◌, ℕ, zero, suc, ◌+◌, ◌==◌, nat_le, if◌then◌else◌, Bool, false, List, drop, Ok}
use Rattle.pickle_lenient.specs.declared.taken.Taken.{Taken}
use Rattle.pickle_lenient.specs.Stream.{buffered}

-- with so many of the bytes in the buffer an opcode is taken, of this size, and none are lost; behind it this many are in the buffer. Where
-- there are some before it, a loader that has none takes an opcode too, and has none behind it
pub record IsPassed (ends : Bool) (left : ℕ) (bytes : List ℕ) (n more : ℕ) : Type 0 where
  pub taken : Taken
  pub is : buffered ends left bytes ≡ Ok taken
  pub whole : taken.lost ≡ false
  pub size : taken.size ≡ n
  pub leaves : taken.left ≡ more
  pub other : (left == 0) ≡ false → (t : Taken) × (buffered ends 0 bytes ≡ Ok t) × (t.left ≡ 0)

-- whether STOP loses what is left of the buffer or not
abbrev pub Passes : ℕ → List ℕ → ℕ → ℕ → Type 0
Passes left bytes n more = (ends : Bool) → IsPassed ends left bytes n more

-- so many opcodes, one after another
abbrev pub PassesAll : ℕ → ℕ → List ℕ → ℕ → ℕ → Type 0
PassesAll zero left bytes n more = (n ≡ 0) × (more ≡ left)
PassesAll (suc k) left bytes n more =
    (first : ℕ) × (now : ℕ) × (last : ℕ) × PassesAll k left bytes first now × Passes now (drop first bytes) last more × (n ≡ first + last)

-- some opcodes
abbrev pub PassesSome : ℕ → List ℕ → ℕ → ℕ → Type 0
PassesSome left bytes n more = (k : ℕ) × PassesAll k left bytes n more

-- what of so many bytes there is
abbrev pub at_most : ℕ → ℕ → ℕ
at_most number there = if nat_le number there then number else there
