-- Blanks at the end make no difference.
use Rattle.std.proofs.Common.{◌≡◌, length}
use Rattle.pickle_allow.specs.Grammar.{right_trimmed, trimmed}
use Rattle.pickle_allow.proofs.cut.trimmed.Given as goal

abbrev pub invariant-loop-last : goal.invariant-loop-last
invariant-loop-last l = right_trimmed l.rest ≡ trimmed l.bytes

abbrev pub decreases-loop-last : goal.decreases-loop-last
decreases-loop-last l = length l.rest
