-- What the loop over the bytes keeps.
use Rattle.std.proofs.Common.{◌≡◌, drop}
use Rattle.std.specs.List.{fold}
use Rattle.pickle_lenient.specs.Key.{after_byte, no_byte}
use Rattle.pickle_lenient.proofs.key.key_of.Given as goal

-- what is left, from what was read, gives the whole
abbrev pub invariant-loop-b : goal.invariant-loop-b
invariant-loop-b l = fold after_byte l.state (drop l.b-index l.text) ≡ fold after_byte no_byte l.text
