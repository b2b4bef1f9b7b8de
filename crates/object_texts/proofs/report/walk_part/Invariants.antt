-- What the loop over the items of a part keeps.
use Rattle.std.proofs.Common.{◌≡◌, ◌+◌, ◌≤◌, length}
use Rattle.pickle_doc.specs.Unread.{Unread}
use Rattle.object_texts.specs.Inside.Stepped.{Stepped, HasStepped}
use Rattle.object_texts.proofs.report.walk_part.Given as goal

abbrev pub invariant-items : goal.invariant-items
invariant-items g l =
    ((begun : Unread) → HasStepped l.many begun l.total g.I.ItemSource.unread l.initial.machine.state l.fn.from
    → ((g.I.ItemSource.unread l.reader).loose ≡ begun.loose)
    × Stepped l.many begun.loose begun.rest (g.I.ItemSource.unread l.reader).rest (g.I.ItemSource.unread l.reader).left l.place l.machine.state l.stop)
    × (length (g.I.ItemSource.unread l.reader).rest + l.place ≤ length (g.I.ItemSource.unread l.fn.from.reader).rest + l.fn.from.place)
