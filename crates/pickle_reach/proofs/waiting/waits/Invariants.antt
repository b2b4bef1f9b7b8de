-- None of those so far is it.
use Rattle.std.proofs.Common.{take}
use Rattle.std.specs.Prelude.{◌≢◌, All}
use Rattle.pickle_reach.proofs.waiting.waits.Given as goal

abbrev pub invariant-loop-other : goal.invariant-loop-other
invariant-loop-other l = All (λ s. s ≢ l.spot) (take l.other-index l.waiting)
