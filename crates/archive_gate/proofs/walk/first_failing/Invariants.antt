-- What the loop over the members keeps.
use Rattle.std.proofs.Common.{take}
use Rattle.archive_gate.specs.Members.{AllPass}
use Rattle.archive_gate.proofs.walk.first_failing.Given as goal

abbrev pub invariant-loop-place : goal.invariant-loop-place
invariant-loop-place l = AllPass l.list (take l.place l.entries)
