use Rattle.std.proofs.Common.{length}
use Rattle.object_texts.specs.Inside.Stepped.{HasStepped}
use Rattle.object_texts.proofs.report.walk_items.Given as goal

abbrev pub invariant-parts : goal.invariant-parts
invariant-parts g l = HasStepped l.many (g.I.ItemSource.unread l.fn.source) l.total g.I.ItemSource.unread l.machine.state l.far

abbrev pub decreases-parts : goal.decreases-parts
decreases-parts g l = length (g.I.ItemSource.unread l.far.reader).rest
