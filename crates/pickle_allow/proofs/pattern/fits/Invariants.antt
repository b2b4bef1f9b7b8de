-- What is left of the pattern and of the text decides.
use Rattle.std.proofs.Common.{◌≡◌, ◌≤◌, length, drop}
use Rattle.pickle_allow.specs.Allow.{fits}
use Rattle.pickle_allow.proofs.pattern.fits.Given as goal

abbrev pub invariant-loop-i : goal.invariant-loop-i
invariant-loop-i l = record {
  within : l.i ≤ length l.text;
  same : fits (drop l.i l.pattern) (drop l.i l.text) ≡ fits l.pattern l.text;
}
