-- None of the tuples so far is nested too deep, and their depths are known.
use Rattle.std.proofs.Common.{◌≡◌, None}
use Rattle.pickle_further.specs.Leads.{first_of}
use Rattle.pickle_further.specs.Deep.{is_deep, depths}
use Rattle.pickle_further.proofs.deep.first_deep.Given as goal

abbrev pub invariant-loop-id : goal.invariant-loop-id
invariant-loop-id g l = (first_of (is_deep (g.M.Inspect.state l.machine).heap) l.id ≡ None) × (l.depths.items ≡ depths (g.M.Inspect.state l.machine).heap l.id)
