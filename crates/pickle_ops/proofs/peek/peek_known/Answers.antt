use Rattle.std.proofs.Common.{◌≡◌, ◌-◌, take, sym, ap, subst}
use Rattle.pickle_ops.specs.Spelling.{Operation, IsSpelled, Reads, size_of}
use Rattle.pickle_ops.proofs.Known.{known_op}
use Rattle.pickle_ops.proofs.peek.peek_known.Goals as goal

pub invariant_of-result : goal.invariant_of-result
invariant_of-result c =
    let same = known_op c.args.bytes.now c.in-Some.rest.now c.in-Some.code.now c.args.size c.in-Some-of_code.opcode c.requires.0 c.in-Some.ensures.cases.0 c.in-Some-of_code.ensures c.requires.1 in
    (subst IsSpelled (sym same) c.requires.1.spelled, c.form-form.ensures, c.decimal_number.ensures)

pub returns : goal.returns
returns c =
    let same = known_op c.args.bytes.now c.in-Some.rest.now c.in-Some.code.now c.args.size c.in-Some-of_code.opcode c.requires.0 c.in-Some.ensures.cases.0 c.in-Some-of_code.ensures c.requires.1 in
    let P : Operation → Type 0 = λ o. Reads c.args.bytes.now o (size_of o) in
    subst P (sym same) (subst (Reads c.args.bytes.now c.requires.0) c.requires.1.size c.requires.1)
