-- The rows that are left decide.
use Rattle.std.proofs.Common.{◌≡◌, drop}
use Rattle.std.specs.List.{list_any}
use Rattle.pickle_further.specs.Leads.{row_leads}
use Rattle.pickle_further.proofs.leads.rows_lead.Given as goal

abbrev pub invariant-loop-row : goal.invariant-loop-row
invariant-loop-row l = list_any (λ r. row_leads r.now l.from l.name) (drop l.row-index l.rows) ≡ list_any (λ r. row_leads r.now l.from l.name) l.rows
