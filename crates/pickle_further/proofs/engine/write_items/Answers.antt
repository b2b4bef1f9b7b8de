use Rattle.std.proofs.Common.{arith, sym, ap, ◌∙◌}
use Rattle.pickle_further.specs.Leads.{or_first}
use Rattle.pickle_further.proofs.Tales.{tale_begins, goes_round, last_line, item_broken, memory_behind, cut_failed, err_is, memory_is}
use Rattle.pickle_further.proofs.engine.write_items.Goals as goal

pub items-init : goal.items-init
items-init g c = rw c.course_of-course.ensures (record {
  in_tale = tale_begins _ _ _;
  size = c.requires.size;
  few = c.requires.few;
  small = c.requires.few;
  heap = c.requires.heap;
  offset_fits = omega (arith, c.requires.offset, c.requires.few);
  place_fits = omega (arith, c.requires.place, c.requires.few);
  imports = omega (arith, c.requires.few);
  calls = omega (arith, c.requires.few);
})

pub returns-in_err-write_step-clause-err : goal.returns-in_err-write_step-clause-err
returns-in_err-write_step-clause-err g c =
    cut_failed _ _ _ _ c.from_residual.ensures.1 (item_broken _ _ _ _ _ _ _ _ _ _ _ _ _ c.items.invariant c.in_err-write_step.ensures)

pub returns-in_err-gone-clause-err : goal.returns-in_err-gone-clause-err
returns-in_err-gone-clause-err g c =
    err_is _ _ _ c.from_residual-in_err-gone.ensures.1 (memory_is _ _ _ _ c.in_err-gone.ensures.err (memory_behind _ _ _ _ _ _ _ _ _ _ _ _ _ c.items.invariant c.in_ok-write_step.ensures))

pub returns-in-Some-clause-ok : goal.returns-in-Some-clause-ok
returns-in-Some-clause-ok g c =
    last_line _ _ _ _ _ _ _ _ _ _ _ _ _ _ _ _ c.items.invariant c.in_ok-write_step.ensures c.with-course.ensures.imports c.with-course.ensures.calls
    (c.or_first-leads.ensures ∙ ap (or_first c.items.leads) c.event_leads.ensures) (sym c.ended.ensures ∙ c.in-Some.is)

pub items-preserved : goal.items-preserved
items-preserved g c =
    let goes = rw (c.split_at.ensures.back, c.spot_after-at.ensures) at c.in_ok-gone.ensures.ok in
    let size = rw c.split_at.ensures.back at c.in_ok-gone.ensures.size in
    rw (c.split_at.ensures.back, c.spot_after-at.ensures) (goes_round _ _ _ _ _ _ _ _ _ _ _ _ _ _ _ _ _ c.items.invariant c.in_ok-write_step.ensures c.with-course.ensures.imports c.with-course.ensures.calls c.with-course.ensures.naming
    (c.or_first-leads.ensures ∙ ap (or_first c.items.leads) c.event_leads.ensures) (sym c.ended.ensures ∙ c.in_default.is) (goes _) size c.in_ok-gone.ensures.objects)
