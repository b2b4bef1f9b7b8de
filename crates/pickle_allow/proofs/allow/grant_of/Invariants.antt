-- What was found and the entries that are left grant the whole.
use Rattle.std.proofs.Common.{◌≡◌, drop}
use Rattle.pickle_allow.specs.Granted.{joined, granted_to}
use Rattle.pickle_allow.proofs.allow.grant_of.Given as goal

abbrev pub invariant-loop-entry : goal.invariant-loop-entry
invariant-loop-entry l = joined l.found (granted_to (drop l.entry-index l.list) l.name) ≡ granted_to l.list l.name
