use Rattle.std.proofs.Common.{length}
use Rattle.pickle_calls.specs.Ran.{GoesAlong}
use Rattle.pickle_calls.specs.Inside.Walked.{HasWalked}
use Rattle.pickle_calls.proofs.calls.run_items.Given as goal

abbrev pub invariant-parts : goal.invariant-parts
invariant-parts g l =
    HasWalked g.T.Teller.telling l.holes l.many (record { detail = l.fn.detail; rest = (g.I.ItemSource.unread l.fn.source).rest; told = g.S.Sink.told l.initial.page }) g.I.ItemSource.unread (g.S.Sink.told l.page) l.machine.state l.far
    × GoesAlong l.machine (g.I.ItemSource.unread l.far.reader) l.far.place

abbrev pub decreases-parts : goal.decreases-parts
decreases-parts g l = length (g.I.ItemSource.unread l.far.reader).rest
