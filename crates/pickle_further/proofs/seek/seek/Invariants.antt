use Rattle.pickle_further.proofs.Searches.{InSearch}
use Rattle.pickle_further.proofs.seek.seek.Given as goal

abbrev pub invariant-items : goal.invariant-items
invariant-items l = InSearch l.fn.sought l.fn.way l.fn.first l.initial.machine.state l.item l.machine.state l.more

abbrev pub decreases-items : goal.decreases-items
decreases-items l = l.more
