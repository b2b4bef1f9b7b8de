-- The rests of the pattern are known for what is read of the text.
use Rattle.std.proofs.Common.{◌≡◌, drop}
use Rattle.pickle_allow.specs.Rests.{rests_fit}
use Rattle.pickle_allow.proofs.pattern.fits_by_rests.Given as goal

abbrev pub invariant-loop-i : goal.invariant-loop-i
invariant-loop-i l = l.rests.items ≡ rests_fit l.pattern (drop l.i l.text)
