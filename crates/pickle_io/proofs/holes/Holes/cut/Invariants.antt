use Rattle.std.proofs.Common.{drop}
use Rattle.pickle_io.specs.Holes.{without}
use Rattle.pickle_io.proofs.Cutting.{InCut}
use Rattle.pickle_io.proofs.holes.Holes.cut.Given as goal

abbrev pub invariant-loop-hole : goal.invariant-loop-hole
invariant-loop-hole l = InCut (drop l.hole-index l.self) l.fn.bytes l.bytes l.kept l.from (without l.self l.fn.bytes)
