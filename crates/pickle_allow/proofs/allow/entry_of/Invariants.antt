-- The entries that are left decide.
use Rattle.std.proofs.Common.{◌≡◌, drop}
use Rattle.pickle_allow.specs.Granted.{first_entry}
use Rattle.pickle_allow.proofs.allow.entry_of.Given as goal

abbrev pub invariant-loop-i : goal.invariant-loop-i
invariant-loop-i l = first_entry (drop l.i l.list) l.name l.i ≡ first_entry l.list l.name 0
