-- The rows that are left decide.
use Rattle.std.proofs.Common.{◌≡◌, drop}
use Rattle.pickle_calls.specs.Begins.{begins_by}
use Rattle.pickle_calls.proofs.begins.begins_by.Given as goal

abbrev pub invariant-loop-row : goal.invariant-loop-row
invariant-loop-row l = begins_by (λ r. r.0) (λ r. r.1.now) (λ r. r.2.now) (drop l.row-index l.rows) l.bytes ≡ begins_by (λ r. r.0) (λ r. r.1.now) (λ r. r.2.now) l.rows l.bytes
