-- How far the items are listed.
use Rattle.std.proofs.Common.{◌≡◌, length}
use Rattle.pickle_json.proofs.Listed.{Listed}
use Rattle.pickle_json.proofs.list.list_items.Given as goal

abbrev pub invariant-items : goal.invariant-items
invariant-items g l = record {
  loose : (g.I.ItemSource.unread l.reader).loose ≡ (g.I.ItemSource.unread l.fn.source).loose;
  listed : Listed l.many (g.I.ItemSource.unread l.fn.source).loose (g.I.ItemSource.unread l.fn.source).rest (g.S.Sink.told l.initial.page) (g.S.Sink.told l.page)
      (g.I.ItemSource.unread l.reader).rest (g.I.ItemSource.unread l.reader).left l.place l.offset l.lean l.opened.items l.highest;
}

abbrev pub decreases-items : goal.decreases-items
decreases-items g l = length (g.I.ItemSource.unread l.reader).rest
