use Rattle.pickle_doc.proofs.Readers.{inside, items_are}
use Rattle.pickle_doc.proofs.Offsets.{begins, place_is, only_place}
use Rattle.pickle_doc.proofs.document.Document.place_near.Goals as goal

pub place_near-requires-clause-place : goal.place_near-requires-clause-place
place_near-requires-clause-place c =
    (begins c.args.self.now.contents c.self.inside.items.items _ _ (items_are _ _ _ _ _ _ (inside c.self.view_is) c.self.invariant.kept) c.requires).within

pub place_near-requires-clause-start : goal.place_near-requires-clause-start
place_near-requires-clause-start c =
    (begins c.args.self.now.contents c.self.inside.items.items _ _ (items_are _ _ _ _ _ _ (inside c.self.view_is) c.self.invariant.kept) c.requires).start

pub returns-clause-place : goal.returns-clause-place
returns-clause-place c =
    place_is c.args.self.now.contents c.self.inside.items.items _ _ (items_are _ _ _ _ _ _ (inside c.self.view_is) c.self.invariant.kept) c.place_near.ensures

pub returns-clause-only : goal.returns-clause-only
returns-clause-only c =
    only_place c.args.self.now.contents c.self.inside.items.items _ _ (items_are _ _ _ _ _ _ (inside c.self.view_is) c.self.invariant.kept) c.place_near.ensures
