-- The place is within, and none of those so far has a lower offset.
use Rattle.std.proofs.Common.{ℕ, ◌<◌, ◌≤◌, length}
use Rattle.std.specs.List.{slice_index_or}
use Rattle.pickle_reach.specs.declared.spot.Spot.{Spot}
use Rattle.pickle_reach.proofs.waiting.least.Given as goal

abbrev pub invariant-loop-place : goal.invariant-loop-place
invariant-loop-place l = (l.least < length l.waiting) × ((d : Spot) (k : ℕ) → k < l.place → (slice_index_or l.waiting l.least d).offset ≤ (slice_index_or l.waiting k d).offset)
