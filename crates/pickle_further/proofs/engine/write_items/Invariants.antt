use Rattle.std.proofs.Common.{length}
use Rattle.pickle_further.specs.Inside.{standing, tale_here}
use Rattle.pickle_further.proofs.Tales.{InLoop}
use Rattle.pickle_further.proofs.engine.write_items.Given as goal

abbrev pub invariant-items : goal.invariant-items
invariant-items g l =
    InLoop g.T.Teller.telling l.fn.holes l.fn.way (tale_here g.T.Teller.telling l.fn.holes (length l.fn.bytes) l.fn.way (standing l.initial.machine.state l.fn.bytes l.fn.from l.fn.naming) l.fn.first) (g.S.Sink.told l.initial.page) (g.S.Sink.told l.page) l.machine.state l.rest l.at l.gone l.course l.leads l.left

abbrev pub decreases-items : goal.decreases-items
decreases-items g l = l.left
