-- The bytes that are left decide.
use Rattle.std.proofs.Common.{◌≡◌, drop}
use Rattle.pickle_allow.specs.Grammar.{has_two_stars}
use Rattle.pickle_allow.proofs.spelling.has_two_stars.Given as goal

abbrev pub invariant-loop-i : goal.invariant-loop-i
invariant-loop-i l = has_two_stars (drop l.i l.bytes) ≡ has_two_stars l.bytes
