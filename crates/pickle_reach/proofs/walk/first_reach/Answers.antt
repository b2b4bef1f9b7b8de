-- The first spot waits; and one that was looked at leads to others.
use Rattle.std.proofs.Common.{rules, arith, ap, length, inl}
use Rattle.pickle_reach.proofs.Walks.{begun, left_next, left_reaches, none_left, more_left}
use Rattle.pickle_reach.proofs.walk.first_reach.Goals as goal

pub loop-visits-init : goal.loop-visits-init
loop-visits-init c =
    (begun c.args.granted c.args.bytes.now c.push.new.self.items c.new-waiting.result.items c.first_spot.result (search rules) c.new-waiting.ensures.items c.first_spot.ensures, omega arith)

pub returns-then-is_empty : goal.returns-then-is_empty
returns-then-is_empty c = none_left c.args.granted c.args.bytes.now c.loop-visits.visits c.loop-visits.last c.loop-visits.settled c.loop-visits.waiting.items (search rules) c.loop-visits.invariant.0

pub returns-then-len-gt-MOST_WAITING : goal.returns-then-len-gt-MOST_WAITING
returns-then-len-gt-MOST_WAITING c =
    inl (more_left c.args.granted c.args.bytes.now c.loop-visits.visits c.loop-visits.last c.loop-visits.settled c.loop-visits.waiting.items (search rules) c.loop-visits.invariant.0)

pub returns-in-Some : goal.returns-in-Some
returns-in-Some c =
    let hit = rw c.in-Some.is at c.in_ok-visit.ensures.reaches in
    left_reaches c.args.granted c.args.bytes.now c.loop-visits.visits c.loop-visits.last c.loop-visits.settled c.loop-visits.waiting.items c.least-place.result c.remove-spot.result c.in-Some.frames c.loop-visits.invariant.0
    (omega (arith, c.least-place.ensures.within, ap length c.as_slice.ensures.value)) c.remove-spot.ensures.value (rw c.as_slice.ensures.value at c.least-place.ensures.least) hit

pub loop-visits-preserved : goal.loop-visits-preserved
loop-visits-preserved c =
    let next = left_next c.args.granted c.args.bytes.now c.loop-visits.visits c.loop-visits.last c.loop-visits.settled c.loop-visits.waiting.items c.remove-spot.new.self.items c.visit.new.waiting.items c.least-place.result c.remove-spot.result
    c.in_ok-visit.visit c.loop-visits.invariant.0 (omega (arith, c.least-place.ensures.within, ap length c.as_slice.ensures.value)) c.remove-spot.ensures.value (rw c.as_slice.ensures.value at c.least-place.ensures.least)
    c.remove-spot.ensures.items c.in_ok-visit.ensures c.in_default.is in
    (rw c.both-settled.ensures next, omega (arith, c.loop-visits-test.true))
