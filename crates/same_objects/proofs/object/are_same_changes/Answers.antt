use Rattle.std.proofs.Common.{arith, refl}
use Rattle.same_objects.proofs.Heaps.{same_lists}
use Rattle.same_objects.proofs.object.are_same_changes.Goals as goal

pub returns : goal.returns
returns c = (
  (λ e. same_lists c.args.one.now c.args.other.now c.loop-place.place (omega (arith, c.max-count.ensures, c.loop-place-test.false)) (omega (arith, c.max-count.ensures, c.loop-place-test.false))
      c.loop-place.invariant),
  (λ e. refl),
)
