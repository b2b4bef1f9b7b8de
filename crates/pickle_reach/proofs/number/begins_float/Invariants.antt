-- What is left decides.
use Rattle.std.proofs.Common.{◌≡◌, drop}
use Rattle.pickle_reach.specs.Numbers.{begins_float}
use Rattle.pickle_reach.proofs.number.begins_float.Given as goal

abbrev pub invariant-loop-byte : goal.invariant-loop-byte
invariant-loop-byte l = begins_float (drop l.byte-index l.line) ≡ begins_float l.line
