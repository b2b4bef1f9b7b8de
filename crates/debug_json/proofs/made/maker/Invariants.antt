-- No item from this place on makes the object, and so many objects are there before it.
use Rattle.std.proofs.Common.{◌≡◌, ◌-◌, ◌≤◌}
use Rattle.debug_json.specs.Inside.Counted.{HasObjects}
use Rattle.debug_json.specs.MadeFields.{maker}
use Rattle.debug_json.proofs.made.maker.Given as goal

abbrev pub invariant-loop-place : goal.invariant-loop-place
invariant-loop-place g l = record {
  within : l.place ≤ l.session.session.cursor;
  count : HasObjects l.session.session.document l.place l.objects;
  left : maker l.session.session.document l.first l.number l.session.session.cursor ≡ maker l.session.session.document l.first l.number l.place;
}

abbrev pub decreases-loop-place : goal.decreases-loop-place
decreases-loop-place g l = l.place
