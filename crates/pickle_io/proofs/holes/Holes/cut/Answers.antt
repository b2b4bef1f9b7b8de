use Rattle.std.proofs.Common.{◌≡◌, ◌<◌, ◌≤◌, [], length, drop, ap, arith, drop-cons, add-one, drop_of_length-le}
use Rattle.pickle_io.proofs.Cutting.{cut_begins, cut_goes, cut_ends}
use Rattle.pickle_io.proofs.holes.Holes.cut.Goals as goal

pub loop-hole-init : goal.loop-hole-init
loop-hole-init c = cut_begins c.args.self.now c.args.bytes.now c.as_slice-hole-items.ensures.apart c.requires

pub loop-hole-preserved : goal.loop-hole-preserved
loop-hole-preserved c =
    let less : c.loop-hole.hole-index < length c.args.self.now = grind (arith, c.loop-hole-test.true, ap length c.as_slice-hole-items.ensures.holes) in
    let at = drop-cons c.args.self.now c.loop-hole.hole-index (record { offset = 0; size = 0 }) less in
    let inv = rw at at c.loop-hole.invariant in
    let moved = rw c.as_slice-hole-items.ensures.holes at c.keep-kept.ensures.moved in
    rw (c.keep-kept.ensures.kept, c.as_slice-hole-items.ensures.holes, add-one) (cut_goes _ _ _ _ _ _ _ _ inv moved c.keep-kept.ensures.len)

pub returns-clause-left : goal.returns-clause-left
returns-clause-left c =
    let most : length c.args.self.now ≤ c.loop-hole.hole-index = grind (arith, c.loop-hole-test.false, ap length c.as_slice-hole-items.ensures.holes) in
    let none : drop c.loop-hole.hole-index c.args.self.now ≡ [] = drop_of_length-le c.args.self.now most in
    let inv = rw none at c.loop-hole.invariant in
    rw c.keep.ensures.kept (cut_ends _ _ _ _ _ _ inv c.keep.ensures.moved)
