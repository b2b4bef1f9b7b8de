use Rattle.pickle_gate.proofs.Packing.{packed_is}
use Rattle.pickle_gate.proofs.packed.Packed.of.Goals as goal

pub returns : goal.returns
returns c =
    packed_is _ _ _ _ c.flags_of.ensures.value c.flags_of-2.ensures.value c.flags_of.ensures.small c.done_of.ensures.ready c.done_of.ensures.used c.done_of.ensures.named
