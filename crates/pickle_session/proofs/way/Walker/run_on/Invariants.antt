use Rattle.std.proofs.Common.{◌≡◌, ◌+◌, ◌-◌, ◌<◌, ◌≤◌, ℕ, false}
use Rattle.pickle_doc.specs.Place.{id_at}
use Rattle.pickle_session.specs.Session.{len_of, is_broken}
use Rattle.pickle_session.specs.Inside.Trail.{Walks}
use Rattle.pickle_session.proofs.way.Walker.run_on.Given as goal

-- it walked to a place, and no item between the first and this one has a breakpoint
abbrev pub invariant-loop-self : goal.invariant-loop-self
invariant-loop-self l = record {
  ahead : l.fn.self.place + 1 ≤ l.self.place;
  within : l.self.place ≤ len_of l.document.contents;
  walks : Walks l.document.contents l.fn.self l.self l.trail.records.items;
  clear : (i : ℕ) → l.fn.self.place + 1 ≤ i → i < l.self.place → is_broken l.breaks.keys (id_at l.document.contents i) ≡ false;
}

abbrev pub decreases-loop-self : goal.decreases-loop-self
decreases-loop-self l = len_of l.document.contents - l.self.place
