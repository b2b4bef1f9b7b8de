use Rattle.pickle_doc.proofs.Readers.{inside, items_are}
use Rattle.pickle_doc.proofs.Offsets.{place_is, only_place}
use Rattle.pickle_doc.proofs.document.Document.place_at.Goals as goal

pub returns-clause-place : goal.returns-clause-place
returns-clause-place c =
    place_is c.args.self.now.contents c.self.inside.items.items _ _ (items_are _ _ _ _ _ _ (inside c.self.view_is) c.self.invariant.kept) c.place_by.ensures

pub returns-clause-only : goal.returns-clause-only
returns-clause-only c =
    only_place c.args.self.now.contents c.self.inside.items.items _ _ (items_are _ _ _ _ _ _ (inside c.self.view_is) c.self.invariant.kept) c.place_by.ensures
