use Rattle.std.proofs.Common.{◌≡◌, map, drop, Some}
use Rattle.pickle_script.specs.GivenHoles.{holes_after, holes_of}
use Rattle.pickle_script.proofs.given_holes.holes_of.Given as goal

abbrev pub invariant-loop-text : goal.invariant-loop-text
invariant-loop-text l = holes_after (Some l.holes) (map (λ t. t.now) (drop l.text-index l.texts)) ≡ holes_of (map (λ t. t.now) l.texts)
