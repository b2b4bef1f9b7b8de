use Rattle.std.proofs.Common.{◌-◌, ◌≤◌}
use Rattle.pickle_session.specs.Inside.Trail.{Walks}
use Rattle.pickle_session.proofs.way.Walker.go_on.Given as goal

-- it walked to a place on the way
abbrev pub invariant-loop-self : goal.invariant-loop-self
invariant-loop-self l = record {
  high : l.self.place ≤ l.to;
  walks : Walks l.document.contents l.initial.self l.self l.trail.records.items;
}

abbrev pub decreases-loop-self : goal.decreases-loop-self
decreases-loop-self l = l.to - l.self.place
