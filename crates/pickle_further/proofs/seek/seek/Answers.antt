use Rattle.std.proofs.Common.{sym, ◌∙◌, arith}
use Rattle.pickle_further.proofs.Searches.{finds_it, finds_none, search_goes}
use Rattle.pickle_further.proofs.seek.seek.Goals as goal

pub returns-then-branch-clause-finds : goal.returns-then-branch-clause-finds
returns-then-branch-clause-finds c = finds_it _ _ _ _ _ _ _ c.items.invariant (sym c.in_ok-is_sought.ensures.ok ∙ c.if-branch.true)

pub returns-then-is_some-clause-finds : goal.returns-then-is_some-clause-finds
returns-then-is_some-clause-finds c =
    finds_none _ _ _ _ _ _ _ c.items.invariant (sym c.in_ok-is_sought.ensures.ok ∙ c.if-branch.false) (sym c.is_some.ensures ∙ c.if-is_some.true)

pub items-preserved : goal.items-preserved
items-preserved c =
    search_goes _ _ _ _ _ _ _ _ _ c.items.invariant (sym c.in_ok-is_sought.ensures.ok ∙ c.if-branch.false) (sym c.is_some.ensures ∙ c.if-is_some.false)
    (omega (arith, c.if-more-eq0.false)) c.in_ok-item.ensures.next c.in_ok-item.ensures.room c.in_ok-item.ensures.less
