-- What the loop over the members keeps.
use Rattle.std.proofs.Common.{take}
use Rattle.archive_gate.specs.Tar.{AllHeldPass}
use Rattle.archive_gate.proofs.tar.first_failing_in.Given as goal

abbrev pub invariant-loop-place : goal.invariant-loop-place
invariant-loop-place l = AllHeldPass l.list l.bytes (take l.place l.members)
