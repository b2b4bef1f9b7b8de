-- An argument that is cut short, one that fails a check, and a good one.
use Rattle.std.proofs.lemmas.Result.{err_from_is_err_and}
use Rattle.pickle_ops.proofs.ReadLemmas.{cut, arg_found, bad_value, begins_with_arg}
use Rattle.pickle_ops.proofs.peek.good_len_tested.Goals as goal

pub returns-in_default-clause-fault : goal.returns-in_default-clause-fault
returns-in_default-clause-fault c =
    let size = rw c.requires at c.in_default.ensures.size in
    cut c.args.opcode c.args.bytes.now size

pub check_value-requires : goal.check_value-requires
check_value-requires c =
    let size = rw c.requires at c.in-Some.ensures.size in
    rw c.requires (arg_found c.args.opcode c.args.bytes.now c.in-Some.len size).1

pub returns-in_err-decimal-clause-fault : goal.returns-in_err-decimal-clause-fault
returns-in_err-decimal-clause-fault c =
    let p = err_from_is_err_and c.from_residual.result c.from_residual.ensures.1 in
    let size = rw c.requires at c.in-Some.ensures.size in
    let bad = rw c.requires at c.in_err-decimal.ensures.fault in
    rw (p.1, p.2) (bad_value c.args.opcode c.args.bytes.now c.in-Some.len (arg_found c.args.opcode c.args.bytes.now c.in-Some.len size).1 c.in_err-decimal.field-0.0 bad)

pub returns-clause-found : goal.returns-clause-found
returns-clause-found c =
    let size = rw c.requires at c.in-Some.ensures.size in
    let good = rw c.requires at (c.in_ok-decimal.ensures.ok).0 in
    let found = arg_found c.args.opcode c.args.bytes.now c.in-Some.len size in
    begins_with_arg c.args.opcode c.args.bytes.now c.in-Some.len found.0 found.1 good
