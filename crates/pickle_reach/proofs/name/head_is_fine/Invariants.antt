-- What is left decides.
use Rattle.std.proofs.Common.{◌≡◌, drop}
use Rattle.pickle_reach.specs.Names.{head_is_fine}
use Rattle.pickle_reach.proofs.name.head_is_fine.Given as goal

abbrev pub invariant-loop-byte : goal.invariant-loop-byte
invariant-loop-byte l = head_is_fine (drop l.byte-index l.bytes) ≡ head_is_fine l.bytes
