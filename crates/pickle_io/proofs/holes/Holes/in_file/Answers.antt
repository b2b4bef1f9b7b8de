use Rattle.std.proofs.Common.{◌≡◌, ◌≤◌, length, sym, ap, ◌∙◌, arith, leb-true, leb-false}
use Rattle.pickle_io.specs.Holes.{most, places_from, left_out}
use Rattle.pickle_io.proofs.Placed.{Parts, rising, in_file_is, in_file_far, out_small, length-places}
use Rattle.pickle_io.proofs.holes.Holes.in_file.Goals as goal

pub returns-then-place-ge-MOST : goal.returns-then-place-ge-MOST
returns-then-place-ge-MOST c = sym (in_file_far c.args.self.now c.args.place c.if-place-ge-MOST.true)

pub count_to-count-requires : goal.count_to-count-requires
count_to-count-requires c =
    let same : c.as_slice.result.now ≡ places_from 0 c.self.inside.holes.items = c.as_slice.ensures.value ∙ c.self.invariant.1 in
    λ i j d le lt. rw same (rising i j 0 0 c.self.inside.holes.items d c.self.invariant.0 (omega arith) le (omega (arith, lt, ap length same, length-places 0 c.self.inside.holes.items)))

pub left_out-requires-clause-count : goal.left_out-requires-clause-count
left_out-requires-clause-count c =
    let same : c.as_slice.result.now ≡ places_from 0 c.self.inside.holes.items = c.as_slice.ensures.value ∙ c.self.invariant.1 in
    omega (arith, c.count_to-count.ensures.bound, ap length same, length-places 0 c.self.inside.holes.items, ap length c.as_slice-2.ensures.value)

pub overflow_add-result : goal.overflow_add-result
overflow_add-result c =
    let same : c.as_slice.result.now ≡ places_from 0 c.self.inside.holes.items = c.as_slice.ensures.value ∙ c.self.invariant.1 in
    let few : c.count_to-count.result ≤ length c.self.inside.holes.items = omega (arith, c.count_to-count.ensures.bound, ap length same, length-places 0 c.self.inside.holes.items) in
    let small : left_out 0 c.count_to-count.result c.self.inside.holes.items ≤ most = out_small c.count_to-count.result 0 0 c.self.inside.holes.items c.self.invariant.0 (omega arith) few (omega arith) in
    let is = rw c.as_slice-2.ensures.value at c.left_out.ensures in
    omega (arith, small, is, c.if-place-ge-MOST.false)

pub returns : goal.returns
returns c =
    let same : c.as_slice.result.now ≡ places_from 0 c.self.inside.holes.items = c.as_slice.ensures.value ∙ c.self.invariant.1 in
    let point = rw same at c.count_to-count.ensures.point in
    let within = rw same at c.count_to-count.ensures.bound in
    let is = rw c.as_slice-2.ensures.value at c.left_out.ensures in
    let parts : Parts (places_from 0 c.self.inside.holes.items) c.args.place c.count_to-count.result = record {
      within = within;
      below = λ j e lt. leb-true _ _ (point.0 j e (omega arith) lt);
      above = λ j e le lt. leb-false _ _ (point.1 j e le lt);
    } in
    rw (sym c.self.view_is, is) (sym (in_file_is c.self.inside.holes.items c.args.place c.count_to-count.result c.self.invariant.0 c.if-place-ge-MOST.false parts))
