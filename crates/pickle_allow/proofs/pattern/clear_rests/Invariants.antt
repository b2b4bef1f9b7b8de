-- As many as there are, of which none is known to stand for anything.
use Rattle.std.proofs.Common.{◌≡◌, ◌≤◌, ◌-◌, false, replicate, vec_len}
use Rattle.pickle_allow.proofs.pattern.clear_rests.Given as goal

abbrev pub invariant-loop-rests : goal.invariant-loop-rests
invariant-loop-rests l = record {
  items : l.rests.items ≡ replicate (vec_len l.rests) false;
  within : vec_len l.rests ≤ l.count;
}

abbrev pub decreases-loop-rests : goal.decreases-loop-rests
decreases-loop-rests l = l.count - vec_len l.rests
