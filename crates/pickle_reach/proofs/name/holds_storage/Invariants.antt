-- What is left decides.
use Rattle.std.proofs.Common.{◌≡◌, length}
use Rattle.pickle_reach.specs.Names.{holds_storage}
use Rattle.pickle_reach.proofs.name.holds_storage.Given as goal

abbrev pub invariant-loop-rest : goal.invariant-loop-rest
invariant-loop-rest l = holds_storage l.left ≡ holds_storage l.name

abbrev pub decreases-loop-rest : goal.decreases-loop-rest
decreases-loop-rest l = length l.left
