-- One that was looked at leads to others.
use Rattle.std.proofs.Common.{rules, arith, refl, ◌-◌}
use Rattle.pickle_mixes.proofs.Looks.{walk_next, walk_over, walk_full, walk_long}
use Rattle.pickle_mixes.proofs.acting.acting_places.Goals as goal

pub returns-then-is_empty : goal.returns-then-is_empty
returns-then-is_empty c = walk_over c.args.many c.args.bytes.now c.loop-visits.visits c.loop-visits.acting.items c.loop-visits.ahead.items c.loop-visits.invariant (omega (arith, c.loop-visits-test.true)) (search rules)

pub returns-then-len-gt-MOST_AHEAD : goal.returns-then-len-gt-MOST_AHEAD
returns-then-len-gt-MOST_AHEAD c = walk_full c.args.many c.args.bytes.now c.loop-visits.visits c.loop-visits.acting.items c.loop-visits.ahead.items c.loop-visits.invariant (search rules)

pub loop-visits-preserved : goal.loop-visits-preserved
loop-visits-preserved c =
    walk_next c.args.many c.args.bytes.now c.loop-visits.visits (c.loop-visits.visits - 1) c.loop-visits.acting.items c.keep.new.places.items c.loop-visits.ahead.items c.remove-place.new.self.items c.look.new.places.items c.remove-place.result c.in_ok-acts.acts
    c.loop-visits.invariant (omega (arith, c.loop-visits-test.true)) refl (search rules) (search rules) c.remove-place.ensures.value c.remove-place.ensures.items c.in_ok-acts.ensures c.in_ok-keep.ensures

pub returns : goal.returns
returns c = walk_long c.args.many c.args.bytes.now c.loop-visits.visits c.loop-visits.acting.items c.loop-visits.ahead.items c.loop-visits.invariant (omega (arith, c.loop-visits-test.false))
