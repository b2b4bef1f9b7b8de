-- The entries that were kept, and what is kept of those that are left, are the whole.
use Rattle.std.proofs.Common.{◌≡◌, ◌++◌, drop}
use Rattle.pickle_allow.specs.Arguments.{limits_of}
use Rattle.pickle_allow.proofs.limit.limits_of.Given as goal

abbrev pub invariant-loop-entry : goal.invariant-loop-entry
invariant-loop-entry l = l.limits.items ++ limits_of (drop l.entry-index l.list) ≡ limits_of l.list
