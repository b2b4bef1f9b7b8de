-- What is left decides.
use Rattle.std.proofs.Common.{◌≡◌, drop}
use Rattle.pickle_reach.specs.Numbers.{begins_integer}
use Rattle.pickle_reach.proofs.number.begins_integer.Given as goal

abbrev pub invariant-loop-byte : goal.invariant-loop-byte
invariant-loop-byte l = begins_integer (drop l.byte-index l.line) ≡ begins_integer l.line
