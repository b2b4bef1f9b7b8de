-- A slot is emptied.
use Rattle.std.proofs.Common.{◌<◌, length, arith}
use Rattle.pickle_machine.proofs.Slots.{empty_slot}
use Rattle.pickle_machine.proofs.entries.Entries.remove.Goals as goal

pub invariant_of-self : goal.invariant_of-self
invariant_of-self c =
    let within : c.args.key < length c.self.inside.slots.items = omega (arith, c.if-key-len.true, c.len.ensures) in
    empty_slot _ _ _ c.self.invariant c.args.key c.in-Some.field-0 c.index.result.now within c.index.ensures c.in-Some.is
