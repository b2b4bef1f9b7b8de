use Rattle.std.proofs.Common.{◌≡◌, false, length}
use Rattle.pickle_gate.proofs.Rounds.{Round}
use Rattle.pickle_gate.proofs.walk.gate.Given as goal

abbrev pub invariant-items : goal.invariant-items
invariant-items l =
    (l.reader.loose ≡ false)
    × Round l.fn.list l.fn.bytes l.reader.rest l.reader.left l.place l.offset l.form l.machine.state l.protocol l.keeps.items
    × ((l.machine.rest ≡ l.reader.rest) × (l.machine.place ≡ l.place))

abbrev pub decreases-items : goal.decreases-items
decreases-items l = length l.reader.rest
