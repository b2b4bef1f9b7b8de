use Rattle.std.proofs.Common.{◌∷◌, add-one, length, refl}
use Rattle.pickle_ops.specs.Spelling.{Reads, HasFault, size_of}
use Rattle.pickle_lenient.specs.Lenient.{mended}
use Rattle.pickle_lenient.proofs.Lenients.{mended_reads, mended_faults}
use Rattle.pickle_lenient.proofs.lenient.read_mended.Goals as goal

pub returns-in-Ok-clause-ok : goal.returns-in-Ok-clause-ok
returns-in-Ok-clause-ok c =
    let reads : Reads (mended (c.args.code ∷ c.args.rest.now)) c.in-Ok.found (size_of c.in-Ok.found) = rw (c.as_slice.ensures.value, c.in_ok-line.ensures) at c.in-Ok.ensures.found in
    (rw (c.in_ok-op-in-Ok.ensures.ok, c.near-row.ensures.is, c.of_ref.ensures, add-one (length c.args.rest.now)) (mended_reads (c.args.code ∷ c.args.rest.now) c.in-Ok.found (size_of c.in-Ok.found) reads), refl)

pub returns-clause-err : goal.returns-clause-err
returns-clause-err c =
    let fault : HasFault (mended (c.args.code ∷ c.args.rest.now)) c.in-Err.field-0 = rw (c.as_slice.ensures.value, c.in_ok-line.ensures) at c.in-Err.ensures.fault in
    λ _. (mended_faults (c.args.code ∷ c.args.rest.now) _ fault, refl)
