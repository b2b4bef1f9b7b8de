use Rattle.std.proofs.Common.{refl}
use Rattle.object_texts.proofs.Stepping.{stepped_none}
use Rattle.object_texts.proofs.report.walk_items.Goals as goal

pub parts-init : goal.parts-init
parts-init g c = rw (c.requires.document.first, c.requires.start) (refl, stepped_none _ _ c.requires.document.document c.requires.document.small, c.requires.document.small, c.unread_len-total.ensures)
