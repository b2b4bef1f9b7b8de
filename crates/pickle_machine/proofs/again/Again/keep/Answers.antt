use Rattle.std.proofs.Common.{◌≡◌, ℕ, List, ◌++◌, length, drop, ap, arith}
use Rattle.pickle_ops.specs.Spelling.{spelling, size_of}
use Rattle.pickle_machine.specs.declared.again.LongOp.{LongOp}
use Rattle.pickle_machine.specs.Inside.LongOps.{IsLong}
use Rattle.pickle_machine.proofs.Longs.{long_snoc}
use Rattle.pickle_machine.proofs.again.Again.keep.Goals as goal

pub invariant_of-self-in-Ok : goal.invariant_of-self-in-Ok
invariant_of-self-in-Ok c =
    let next : (rest : List ℕ) × (drop c.args.offset c.self.inside.bytes.now ≡ spelling c.args.op.now ++ rest) = rw (← c.self.view_is) at c.requires in
    let length_is : length c.arg-arg.result.now ≡ length c.args.op.now.arg = ap (λ (l : List ℕ). length l) c.arg-arg.ensures.value in
    let size : c.in-Ok.size ≡ size_of c.args.op.now = omega (arith, c.in-Ok.ensures, length_is) in
    let l : LongOp = record { offset = c.args.offset; size = c.in-Ok.size } in
    let is : IsLong c.self.inside.bytes.now l = record { op = c.args.op.now; rest = next.0; spelled = c.arg-arg.ensures.spelled; stands = next.1; size = size } in
    rw c.in_ok-push-in-Ok.ensures.items (long_snoc c.self.inside.bytes.now c.self.inside.long.items l c.self.invariant is)
