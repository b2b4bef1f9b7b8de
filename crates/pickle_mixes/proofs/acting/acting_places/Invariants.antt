-- What the walk keeps.
use Rattle.pickle_mixes.proofs.Looks.{IsAhead}
use Rattle.pickle_mixes.proofs.acting.acting_places.Given as goal

abbrev pub invariant-loop-visits : goal.invariant-loop-visits
invariant-loop-visits l = IsAhead l.many l.bytes l.visits l.acting.items l.ahead.items

abbrev pub decreases-loop-visits : goal.decreases-loop-visits
decreases-loop-visits l = l.visits
