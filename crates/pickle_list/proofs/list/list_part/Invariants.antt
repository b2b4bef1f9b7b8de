use Rattle.std.proofs.Common.{◌≡◌, ◌≤◌, length}
use Rattle.pickle_list.specs.Inside.Listed.{Begun, Listed, HasListed}
use Rattle.pickle_list.proofs.list.list_part.Given as goal

abbrev pub invariant-items : goal.invariant-items
invariant-items g l =
    ((begun : Begun) → HasListed g.A.ArgWriter.texts l.many begun g.I.ItemSource.unread (g.S.Sink.told l.initial.page) l.fn.from
    → ((g.I.ItemSource.unread l.reader).loose ≡ begun.unread.loose)
    × Listed g.A.ArgWriter.texts l.many begun.unread.loose begun.unread.rest begun.told (g.S.Sink.told l.page) (g.I.ItemSource.unread l.reader).rest (g.I.ItemSource.unread l.reader).left l.place l.offset l.lean l.opened.items l.highest)
    × (length (g.I.ItemSource.unread l.reader).rest ≤ length (g.I.ItemSource.unread l.fn.from.reader).rest)

abbrev pub decreases-items : goal.decreases-items
decreases-items g l = length (g.I.ItemSource.unread l.reader).rest
