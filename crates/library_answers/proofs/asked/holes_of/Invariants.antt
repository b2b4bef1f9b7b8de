use Rattle.std.proofs.Common.{◌≡◌, true, ◌++◌, drop}
use Rattle.pickle_io.specs.Holes.{end_of}
use Rattle.library_answers.specs.Asked.{stand_from, holes_of}
use Rattle.library_answers.proofs.asked.holes_of.Given as goal

abbrev pub invariant-loop-one : goal.invariant-loop-one
invariant-loop-one l = (l.holes ++ holes_of (drop l.one-index l.given) ≡ holes_of l.given) × (stand_from (end_of 0 l.holes) (drop l.one-index l.given) ≡ true)
