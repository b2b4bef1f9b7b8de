use Rattle.std.proofs.Common.{arith}
use Rattle.same_objects.proofs.Heaps.{same_lists}
use Rattle.same_objects.proofs.heap.first_other.Goals as goal

pub returns : goal.returns
returns c =
    same_lists c.args.one.now c.args.other.now c.loop-number.number (omega (arith, c.max-count.ensures, c.loop-number-test.false)) (omega (arith, c.max-count.ensures, c.loop-number-test.false))
    c.loop-number.invariant
