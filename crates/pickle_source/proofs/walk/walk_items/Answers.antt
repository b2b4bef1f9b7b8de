use Rattle.std.proofs.Common.{refl}
use Rattle.pickle_source.proofs.Noting.{noted_none}
use Rattle.pickle_source.proofs.walk.walk_items.Goals as goal

pub parts-init : goal.parts-init
parts-init g c = rw (c.requires.document.first, c.requires.start, c.new-notes.ensures.facts, c.new-notes.ensures.acts) (refl, noted_none _ _ c.requires.document.document c.requires.document.small, c.requires.document.small, c.unread_len-total.ensures)
