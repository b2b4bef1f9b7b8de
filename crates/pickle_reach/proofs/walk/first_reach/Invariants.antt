-- What the walk keeps.
use Rattle.std.proofs.Common.{◌-◌, ◌≤◌}
use Rattle.pickle_reach.specs.Inside.{IsLeft}
use Rattle.pickle_reach.proofs.walk.first_reach.Given as goal

abbrev pub invariant-loop-visits : goal.invariant-loop-visits
invariant-loop-visits l = IsLeft l.granted l.bytes l.visits l.last l.settled l.waiting.items × (l.visits ≤ l.most)

abbrev pub decreases-loop-visits : goal.decreases-loop-visits
decreases-loop-visits l = l.most - l.visits
