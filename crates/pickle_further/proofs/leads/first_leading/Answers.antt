use Rattle.std.proofs.Common.{sym, ◌∙◌, arith, add-one}
use Rattle.pickle_further.proofs.Leading.{none_of_none, none_yet, first_found}
use Rattle.pickle_further.proofs.leads.first_leading.Goals as goal

pub loop-id-init : goal.loop-id-init
loop-id-init g c = none_of_none _

pub returns-then-leads_at : goal.returns-then-leads_at
returns-then-leads_at g c = first_found _ _ _ c.loop-id.invariant (sym c.leads_at.ensures ∙ c.if-leads_at.true) (omega (arith, c.loop-id-test.true, c.objects-id-end.ensures))

pub loop-id-preserved : goal.loop-id-preserved
loop-id-preserved g c = rw (add-one c.loop-id.id) (none_yet _ _ c.loop-id.invariant (sym c.leads_at.ensures ∙ c.if-leads_at.false))
