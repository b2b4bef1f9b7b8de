use Rattle.std.proofs.Common.{◌+◌, ◌≤◌, length}
use Rattle.pickle_doc.proofs.read.count_items.Given as goal

-- no more items than bytes were read
abbrev pub invariant-items : goal.invariant-items
invariant-items l = l.count + length l.reader.rest ≤ length l.fn.bytes

abbrev pub decreases-items : goal.decreases-items
decreases-items l = length l.reader.rest
