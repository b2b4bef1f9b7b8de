-- The rows that are left decide.
use Rattle.std.proofs.Common.{◌≡◌, drop}
use Rattle.pickle_names.specs.Renamed.{by_modules}
use Rattle.pickle_names.proofs.old_names.by_modules.Given as goal

abbrev pub invariant-loop-row : goal.invariant-loop-row
invariant-loop-row l = by_modules (λ r. r.0.now) (λ r. r.1.now) (drop l.row-index l.rows) l.from l.name ≡ by_modules (λ r. r.0.now) (λ r. r.1.now) l.rows l.from l.name
