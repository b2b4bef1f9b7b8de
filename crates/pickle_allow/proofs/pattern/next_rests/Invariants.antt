-- The rests from i on are done; those before are as they were.
use Rattle.std.proofs.Common.{◌≡◌, drop}
use Rattle.pickle_allow.specs.Rests.{first_of_rests}
use Rattle.pickle_allow.proofs.Matching.{done_from}
use Rattle.pickle_allow.proofs.pattern.next_rests.Given as goal

abbrev pub invariant-loop-i : goal.invariant-loop-i
invariant-loop-i l = record {
  done : l.rests.items ≡ done_from l.pattern l.end l.byte l.fn.rests.items l.i;
  both : l.both ≡ first_of_rests (drop l.i l.fn.rests.items);
}
