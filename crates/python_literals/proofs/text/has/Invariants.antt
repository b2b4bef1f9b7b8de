-- What is left decides.
use Rattle.std.proofs.Common.{◌≡◌, ◌==◌, drop}
use Rattle.std.specs.List.{list_any}
use Rattle.python_literals.proofs.text.has.Given as goal

abbrev pub invariant-loop-other : goal.invariant-loop-other
invariant-loop-other l = list_any (λ b. b == l.byte) (drop l.other-index l.bytes) ≡ list_any (λ b. b == l.byte) l.bytes
