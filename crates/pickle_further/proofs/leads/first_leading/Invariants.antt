-- None of the objects so far leads to the unpickler.
use Rattle.std.proofs.Common.{◌≡◌, None}
use Rattle.pickle_further.specs.Leads.{leads_at, first_of}
use Rattle.pickle_further.proofs.leads.first_leading.Given as goal

abbrev pub invariant-loop-id : goal.invariant-loop-id
invariant-loop-id g l = first_of (leads_at (g.M.Inspect.state l.machine).heap) l.id ≡ None
