-- What the loop over the items of a part keeps.
use Rattle.std.proofs.Common.{◌≡◌, ◌+◌, ◌≤◌, length}
use Rattle.pickle_doc.specs.Unread.{Unread}
use Rattle.pickle_source.specs.Inside.Noted.{Noted, HasNoted}
use Rattle.pickle_source.proofs.walk.walk_part.Given as goal

abbrev pub invariant-items : goal.invariant-items
invariant-items g l =
    ((begun : Unread) → HasNoted l.many begun l.total g.I.ItemSource.unread l.initial.machine.state l.initial.notes.facts.items l.initial.notes.acts.items l.fn.from
    → ((g.I.ItemSource.unread l.reader).loose ≡ begun.loose)
    × Noted l.many begun.loose begun.rest (g.I.ItemSource.unread l.reader).rest (g.I.ItemSource.unread l.reader).left l.place l.offset l.machine.state l.stop l.protocol l.notes.facts.items l.notes.acts.items)
    × (length (g.I.ItemSource.unread l.reader).rest + l.place ≤ length (g.I.ItemSource.unread l.fn.from.reader).rest + l.fn.from.place)
