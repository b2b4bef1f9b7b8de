use Rattle.std.proofs.Common.{◌≡◌, ◌-◌, ◌+◌, ◌<◌, ◌≤◌, length}
use Rattle.pickle_machine.specs.Held.{Fits}
use Rattle.pickle_session.specs.Inside.Trail.{Stands, Went}
use Rattle.pickle_session.proofs.way.Walker.back.Given as goal

-- the walker and the records that are left stand at a place between the two, and there is still room for the first state
abbrev pub invariant-loop-self : goal.invariant-loop-self
invariant-loop-self g l = record {
  low : l.to ≤ l.self.place;
  high : l.self.place ≤ l.initial.self.place;
  stands : Stands l.document.contents l.self (g.P.Past.holds l.past).records;
  went : Went (l.initial.self.place - l.self.place) l.initial.self l.self;
  still : l.self.place ≡ l.initial.self.place → l.self.machine ≡ l.initial.self.machine;
  was : l.self.place < l.initial.self.place → Fits l.initial.self.machine.state l.self.machine;
  records : length (g.P.Past.holds l.past).records + (l.initial.self.place - l.self.place) ≡ length (g.P.Past.holds l.initial.past).records;
  limit : (g.P.Past.holds l.past).limit ≡ (g.P.Past.holds l.initial.past).limit;
  room : (g.P.Past.holds l.initial.past).room + (l.initial.self.place - l.self.place) ≤ (g.P.Past.holds l.past).room;
}

abbrev pub decreases-loop-self : goal.decreases-loop-self
decreases-loop-self g l = l.self.place - l.to
