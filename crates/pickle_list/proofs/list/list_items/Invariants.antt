use Rattle.std.proofs.Common.{length}
use Rattle.pickle_list.specs.Inside.Listed.{HasListed}
use Rattle.pickle_list.proofs.list.list_items.Given as goal

abbrev pub invariant-parts : goal.invariant-parts
invariant-parts g l = HasListed g.A.ArgWriter.texts l.many (record { unread = g.I.ItemSource.unread l.fn.source; told = g.S.Sink.told l.initial.page }) g.I.ItemSource.unread (g.S.Sink.told l.page) l.far

abbrev pub decreases-parts : goal.decreases-parts
decreases-parts g l = length (g.I.ItemSource.unread l.far.reader).rest
