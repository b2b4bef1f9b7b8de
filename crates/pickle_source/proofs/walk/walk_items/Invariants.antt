use Rattle.std.proofs.Common.{length}
use Rattle.pickle_source.specs.Inside.Noted.{HasNoted}
use Rattle.pickle_source.proofs.walk.walk_items.Given as goal

abbrev pub invariant-parts : goal.invariant-parts
invariant-parts g l = HasNoted l.many (g.I.ItemSource.unread l.fn.source) l.total g.I.ItemSource.unread l.machine.state l.notes.facts.items l.notes.acts.items l.far

abbrev pub decreases-parts : goal.decreases-parts
decreases-parts g l = length (g.I.ItemSource.unread l.far.reader).rest
