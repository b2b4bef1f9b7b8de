use Rattle.std.proofs.Common.{◌≡◌, drop}
use Rattle.pickle_io.specs.Holes.{first_outside}
use Rattle.pickle_io.proofs.holes.Holes.first_outside.Given as goal

abbrev pub invariant-loop-hole : goal.invariant-loop-hole
invariant-loop-hole l = first_outside l.size (drop l.hole-index l.self) ≡ first_outside l.size l.self
