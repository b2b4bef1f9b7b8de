-- Those so far come before it, and what is left decides.
use Rattle.std.proofs.Common.{◌≡◌, ◌+◌, ◌-◌, ◌≤◌, length, drop}
use Rattle.pickle_mixes.specs.Acting.{rank}
use Rattle.pickle_mixes.proofs.queue.rank.Given as goal

abbrev pub invariant-loop-count : goal.invariant-loop-count
invariant-loop-count l = (l.count ≤ length l.places) × (l.count + rank l.place (drop l.count l.places) ≡ rank l.place l.places)

abbrev pub decreases-loop-count : goal.decreases-loop-count
decreases-loop-count l = length l.places - l.count
