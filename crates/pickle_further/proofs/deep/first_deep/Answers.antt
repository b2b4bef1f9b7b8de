use Rattle.std.proofs.Common.{true, false, sym, ◌∙◌, arith, add-one}
use Rattle.pickle_further.proofs.Leading.{none_of_none, none_yet, first_found}
use Rattle.pickle_further.proofs.Nested.{no_depths, one_more_depth, deep_here, over, not_over}
use Rattle.pickle_further.proofs.deep.first_deep.Goals as goal

pub loop-id-init : goal.loop-id-init
loop-id-init g c = (none_of_none _, c.new-depths.ensures.items ∙ sym (no_depths _))

pub returns-then-depth-gt-MOST_NESTED : goal.returns-then-depth-gt-MOST_NESTED
returns-then-depth-gt-MOST_NESTED g c =
    let depth = rw c.as_slice.ensures.value at c.depth_at-depth.ensures in
    first_found _ _ _ c.loop-id.invariant.0 (deep_here _ _ _ _ true c.loop-id.invariant.1 depth (over _ c.if-depth-gt-MOST_NESTED.true)) (omega (arith, c.loop-id-test.true, c.objects-id-end.ensures))

pub loop-id-preserved : goal.loop-id-preserved
loop-id-preserved g c =
    let depth = rw c.as_slice.ensures.value at c.depth_at-depth.ensures in (
      rw (add-one c.loop-id.id) (none_yet _ _ c.loop-id.invariant.0 (deep_here _ _ _ _ false c.loop-id.invariant.1 depth (not_over _ c.if-depth-gt-MOST_NESTED.false))),
      rw (add-one c.loop-id.id) (c.in_ok-push.ensures.items ∙ one_more_depth _ _ _ _ c.loop-id.invariant.1 depth),
    )
