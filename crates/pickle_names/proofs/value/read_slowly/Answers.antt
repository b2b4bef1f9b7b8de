-- One character more.
use Rattle.std.proofs.Common.{ap, rules}
use Rattle.pickle_names.proofs.Turns.{reads-next}
use Rattle.pickle_names.proofs.value.read_slowly.Goals as goal

pub loop-preserved : goal.loop-preserved
loop-preserved c =
    rw c.behind-rest.ensures (reads-next c.args.coding c.args.most c.loop.counter c.in-Some.byte.now c.args.bytes.now c.loop.rest.now c.in-Some.more.now c.loop.plain c.in-Some-front_of.piece
    c.stays_plain-plain.result c.loop-test.true (search rules) (search rules) c.stays_plain-plain.ensures.before (λ t. ap (λ f. f c.loop.rest.now) (c.stays_plain-plain.ensures.now t)) c.loop.invariant)
