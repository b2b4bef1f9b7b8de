-- How many bytes of a number say as much as all.
use Rattle.std.proofs.Common.{◌≡◌, ℕ, suc, ◌+◌, true, false, List, refl, arith}
use Rattle.opcode_assembler.specs.Numbers.{says_no_more, least_len}

one_less : (bytes : List ℕ) (k : ℕ) → says_no_more bytes k ≡ true → least_len bytes k ≡ least_len bytes (suc k)
unfolding least_len
one_less bytes k h = rw h refl

as_many : (bytes : List ℕ) (k : ℕ) → says_no_more bytes k ≡ false → suc k ≡ least_len bytes (suc k)
unfolding least_len
as_many bytes k h = rw h refl

no_byte : (bytes : List ℕ) → 0 ≡ least_len bytes 0
unfolding least_len
no_byte bytes = refl

pub fewer : (bytes : List ℕ) (n k : ℕ) → n ≡ k + 1 → says_no_more bytes k ≡ true → least_len bytes k ≡ least_len bytes n
fewer bytes n k e h = let s : n ≡ suc k = omega (arith, e) in rw s (one_less bytes k h)

pub enough : (bytes : List ℕ) (n k : ℕ) → n ≡ k + 1 → says_no_more bytes k ≡ false → n ≡ least_len bytes n
enough bytes n k e h = let s : n ≡ suc k = omega (arith, e) in rw s (as_many bytes k h)

pub nothing : (bytes : List ℕ) (n : ℕ) → n ≡ 0 → n ≡ least_len bytes n
nothing bytes n e = rw e (no_byte bytes)
