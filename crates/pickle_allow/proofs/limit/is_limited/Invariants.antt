-- The entries that are left decide.
use Rattle.std.proofs.Common.{◌≡◌, drop}
use Rattle.std.specs.List.{list_any}
use Rattle.pickle_allow.specs.Arguments.{limits_name, is_limited}
use Rattle.pickle_allow.proofs.limit.is_limited.Given as goal

abbrev pub invariant-loop-i : goal.invariant-loop-i
invariant-loop-i l = list_any (limits_name l.limit l.name) (drop l.i l.limits) ≡ is_limited l.limits l.limit l.name
