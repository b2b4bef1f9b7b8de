use Rattle.pickle_io.proofs.Plain.{plain_none, plain_more, plain_all}
use Rattle.pickle_io.proofs.text.is_plain.Goals as goal

pub loop-byte-init : goal.loop-byte-init
loop-byte-init c = plain_none

pub loop-byte-preserved : goal.loop-byte-preserved
loop-byte-preserved c =
    plain_more c.args.text.now c.loop-byte.byte-index c.loop-byte-test.true (c.type_inv.text c.loop-byte.byte-index).fits (rw c.from.ensures at c.if-from-ne49.false) c.loop-byte.invariant

pub returns : goal.returns
returns c = λ _. plain_all c.args.text.now c.loop-byte.byte-index c.loop-byte-test.false c.loop-byte.invariant
