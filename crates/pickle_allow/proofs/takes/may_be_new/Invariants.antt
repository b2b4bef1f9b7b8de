-- The entries that are left decide.
use Rattle.std.proofs.Common.{◌≡◌, drop}
use Rattle.std.specs.List.{list_any}
use Rattle.pickle_allow.specs.Arguments.{new_by, may_be_new}
use Rattle.pickle_allow.proofs.takes.may_be_new.Given as goal

abbrev pub invariant-loop-i : goal.invariant-loop-i
invariant-loop-i l = list_any (new_by l.name) (drop l.i l.list) ≡ may_be_new l.list l.name
