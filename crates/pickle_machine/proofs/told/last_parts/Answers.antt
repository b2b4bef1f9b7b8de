use Rattle.std.proofs.Common.{◌≡◌, suc, ◌-◌, length, ap, ◌∙◌, arith}
use Rattle.pickle_ops.specs.Object.{Object}
use Rattle.pickle_machine.proofs.Doings.{parts_at}
use Rattle.pickle_machine.proofs.told.last_parts.Goals as goal

pub returns : goal.returns
returns c =
    let some : length c.args.heap.now ≡ suc (length c.args.heap.now - 1) = grind arith in
    c.parts.ensures ∙ ap (λ (o : Object). o.parts) c.index-heap-heap.is ∙ parts_at c.args.heap.now (length c.args.heap.now - 1) _ some
