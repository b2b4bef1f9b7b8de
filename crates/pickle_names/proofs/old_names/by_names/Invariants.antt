-- The rows that are left decide.
use Rattle.std.proofs.Common.{◌≡◌, drop}
use Rattle.std.specs.Option.{option_map}
use Rattle.pickle_names.specs.Renamed.{import_of, by_names}
use Rattle.pickle_names.proofs.old_names.by_names.Given as goal

abbrev pub invariant-loop-row : goal.invariant-loop-row
invariant-loop-row l = by_names (λ r. record { from = r.0.now; name = r.1.now }) (λ r. record { from = r.2.now; name = r.3.now }) (drop l.row-index l.rows) (option_map import_of l.otherwise) l.from l.name ≡ by_names (λ r. record { from = r.0.now; name = r.1.now }) (λ r. record { from = r.2.now; name = r.3.now }) l.rows (option_map import_of l.otherwise) l.from l.name
