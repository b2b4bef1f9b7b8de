-- The bytes that are left decide.
use Rattle.std.proofs.Common.{◌≡◌, drop}
use Rattle.pickle_further.specs.Leads.{begins_behind}
use Rattle.pickle_further.proofs.leads.begins_behind.Given as goal

abbrev pub invariant-loop-i : goal.invariant-loop-i
invariant-loop-i l = begins_behind l.parts (drop l.i l.name) ≡ begins_behind l.parts l.name
