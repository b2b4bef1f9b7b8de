-- What is left decides.
use Rattle.std.proofs.Common.{◌≡◌, drop}
use Rattle.std.specs.List.{list_all}
use Rattle.python_literals.specs.Names.{may_follow}
use Rattle.python_literals.proofs.names.all_follow.Given as goal

abbrev pub invariant-loop-byte : goal.invariant-loop-byte
invariant-loop-byte l = list_all may_follow (drop l.byte-index l.bytes) ≡ list_all may_follow l.bytes
