use Rattle.pickle_calls.proofs.Walking.{walked_none}
use Rattle.pickle_text.proofs.Parts.{passed_on}
use Rattle.pickle_calls.proofs.calls.run_items.Goals as goal

pub parts-init : goal.parts-init
parts-init g c = (rw (c.requires.source.first, c.requires.fresh, c.new.ensures) (c.requires.framed, walked_none _ _ _ _ _ (rw c.requires.framed at c.requires.source.document) c.requires.source.small, c.requires.source.small), c.requires.along)

pub returns-in_err-next-clause-err : goal.returns-in_err-next-clause-err
returns-in_err-next-clause-err g c = passed_on _ _ _ c.from_residual.ensures.1 (c.in_err-next.ensures.err (record { detail = c.args.detail; rest = (g.I.ItemSource.unread c.args.source).rest; told = g.S.Sink.told c.args.page.now }) c.parts.invariant.0)

pub parts-preserved : goal.parts-preserved
parts-preserved g c = (rw c.in-More.is at (c.in_ok-next.ensures.ok (record { detail = c.args.detail; rest = (g.I.ItemSource.unread c.args.source).rest; told = g.S.Sink.told c.args.page.now }) c.parts.invariant.0), rw c.in-More.is at c.in_ok-next.ensures.along)

pub returns-in-End-clause-ok : goal.returns-in-End-clause-ok
returns-in-End-clause-ok g c = rw c.in-End.is at (c.in_ok-next.ensures.ok (record { detail = c.args.detail; rest = (g.I.ItemSource.unread c.args.source).rest; told = g.S.Sink.told c.args.page.now }) c.parts.invariant.0)
