-- Where the bytes that are left are quiet, all are.
use Rattle.std.proofs.Common.{◌≤◌, length}
use Rattle.pickle_further.specs.Quiet.{IsQuiet}
use Rattle.pickle_further.proofs.quiet.is_quiet.Given as goal

abbrev pub invariant-items : goal.invariant-items
invariant-items l = (l.left ≤ length l.rest) × (length l.rest ≤ length l.bytes) × (IsQuiet l.left l.rest → IsQuiet 0 l.bytes)

abbrev pub decreases-items : goal.decreases-items
decreases-items l = length l.rest
