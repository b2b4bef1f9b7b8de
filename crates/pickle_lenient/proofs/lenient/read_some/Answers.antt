use Rattle.std.proofs.Common.{◌≡◌, false}
use Rattle.pickle_ops.specs.Row.{row_of}
use Rattle.pickle_lenient.specs.Row.{is_far}
use Rattle.pickle_lenient.proofs.Lenients.{found_so, faulty_ok, faulty_err}
use Rattle.pickle_lenient.proofs.lenient.read_some.Goals as goal

pub returns-in_ok-op-in-Ok-clause-ok : goal.returns-in_ok-op-in-Ok-clause-ok
returns-in_ok-op-in-Ok-clause-ok c =
    let near : is_far (row_of c.in-Ok.found) ≡ false = rw c.of_ref.ensures at c.near-row.ensures.near in
    rw (c.in_ok-op-in-Ok.ensures.ok, c.near-row.ensures.is, c.of_ref.ensures, c.size-size.ensures) (found_so c.args.bytes.now c.in-Ok.found c.in-Ok.ensures.found near)

pub returns-in-Err-clause-ok : goal.returns-in-Err-clause-ok
returns-in-Err-clause-ok c = faulty_ok _ _ _ _ c.in-Err.ensures.fault c.requires.parts c.read_faulty.ensures.ok

pub returns-in-Err-clause-err : goal.returns-in-Err-clause-err
returns-in-Err-clause-err c = faulty_err _ _ _ _ c.in-Err.ensures.fault c.requires.parts c.read_faulty.ensures.err
