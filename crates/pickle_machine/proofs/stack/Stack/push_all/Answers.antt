use Rattle.std.proofs.Common.{◌≤◌, ℕ, length, arith, length-append}
use Rattle.std.proofs.lemmas.List.{length-take-le}
use Rattle.pickle_machine.proofs.stack.Stack.push_all.Goals as goal

pub push-requires : goal.push-requires
push-requires c =
    let i : c.loop-id.id-index ≤ length c.args.items.now = omega arith in
    rw c.loop-id.invariant (omega (arith, length-append {A = ℕ}, length-take-le c.loop-id.id-index c.args.items.now i))
