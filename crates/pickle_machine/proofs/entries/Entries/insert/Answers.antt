-- A slot is filled, or there is one more.
use Rattle.std.proofs.Common.{◌<◌, length, arith}
use Rattle.pickle_machine.proofs.Slots.{push_in_order, fill_hole, fill_over}
use Rattle.pickle_machine.proofs.entries.Entries.insert.Goals as goal

pub invariant_of-self : goal.invariant_of-self
invariant_of-self c =
    let within : c.args.key < length c.self.inside.slots.items = omega (arith, c.if-key-count.true, c.len-count.ensures) in
    fill_hole _ _ _ c.self.invariant c.args.key c.args.id c.index-old.result.now within c.index-old.ensures c.in-None.is

pub invariant_of-self-in-Some : goal.invariant_of-self-in-Some
invariant_of-self-in-Some c =
    let within : c.args.key < length c.self.inside.slots.items = omega (arith, c.if-key-count.true, c.len-count.ensures) in
    fill_over _ _ _ c.self.invariant c.args.key c.args.id c.in-Some.old c.index-old.result.now within c.index-old.ensures c.in-Some.is

pub invariant_of-self-then-len-eq0 : goal.invariant_of-self-then-len-eq0
invariant_of-self-then-len-eq0 c = push_in_order _ _ _ c.self.invariant _ c.args.id c.in_ok-push.ensures.items (omega (arith, c.len.ensures.len, c.if-len-eq0.true))
