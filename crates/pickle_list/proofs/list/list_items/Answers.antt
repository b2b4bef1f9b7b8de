use Rattle.std.proofs.Common.{refl}
use Rattle.pickle_list.proofs.Listed.{listed_none}
use Rattle.pickle_text.proofs.Parts.{passed_on}
use Rattle.pickle_list.proofs.list.list_items.Goals as goal

pub parts-init : goal.parts-init
parts-init g c = rw (c.requires.first, c.new.ensures, c.new-2.ensures.items, c.none.ensures, c.at.ensures) (refl, listed_none _ _ _ c.requires.document c.requires.small, c.requires.small)

pub returns-in_err-next-clause-err : goal.returns-in_err-next-clause-err
returns-in_err-next-clause-err g c = passed_on _ _ _ c.from_residual.ensures.1 (c.in_err-next.ensures.err (record { unread = g.I.ItemSource.unread c.args.source; told = g.S.Sink.told c.args.page.now }) c.parts.invariant)

pub parts-preserved : goal.parts-preserved
parts-preserved g c = rw c.in-More.is at (c.in_ok-next.ensures.ok (record { unread = g.I.ItemSource.unread c.args.source; told = g.S.Sink.told c.args.page.now }) c.parts.invariant)

pub returns-in-End-clause-ok : goal.returns-in-End-clause-ok
returns-in-End-clause-ok g c = rw c.in-End.is at (c.in_ok-next.ensures.ok (record { unread = g.I.ItemSource.unread c.args.source; told = g.S.Sink.told c.args.page.now }) c.parts.invariant)
