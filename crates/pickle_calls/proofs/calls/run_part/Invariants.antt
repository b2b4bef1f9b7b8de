use Rattle.std.proofs.Common.{◌≡◌, ◌+◌, ◌≤◌, false, length}
use Rattle.pickle_calls.specs.Manner.{manner}
use Rattle.pickle_calls.specs.Inside.Walked.{Begun, Walked, HasWalked}
use Rattle.pickle_calls.proofs.calls.run_part.Given as goal

abbrev pub invariant-items : goal.invariant-items
invariant-items g l =
    ((begun : Begun) → HasWalked g.T.Teller.telling l.holes l.many begun g.I.ItemSource.unread (g.S.Sink.told l.initial.page) l.initial.machine.state l.fn.from
    → ((g.I.ItemSource.unread l.reader).loose ≡ false)
    × Walked g.T.Teller.telling (manner begun.detail l.holes) l.many begun.rest begun.told (g.S.Sink.told l.page) (g.I.ItemSource.unread l.reader).rest (g.I.ItemSource.unread l.reader).left l.place l.offset l.machine.state l.course l.stop)
    × (length (g.I.ItemSource.unread l.reader).rest + l.place ≤ length (g.I.ItemSource.unread l.fn.from.reader).rest + l.fn.from.place)
    × ((l.machine.rest ≡ (g.I.ItemSource.unread l.reader).rest) × (l.machine.place ≡ l.place))
