-- What is left of the name decides.
use Rattle.std.proofs.Common.{◌≡◌, ◌+◌, drop, ℕ}
use Rattle.std.specs.Option.{option_map}
use Rattle.packed_stream.specs.Header.{name_size}
use Rattle.packed_stream.proofs.header.name_size.Given as goal

abbrev pub invariant-loop-place : goal.invariant-loop-place
invariant-loop-place l = option_map (λ (n : ℕ). l.place + n) (name_size (drop l.place l.bytes)) ≡ name_size l.bytes
