use Rattle.std.proofs.Common.{◌-◌, length}
use Rattle.unit_tests.proofs.machine.path.+walk.Given as goal

-- the operations that are left
abbrev pub decreases-walk : goal.decreases-walk
decreases-walk l = length l.way.now.ops.now - l.place
