use Rattle.pickle_machine.proofs.Slims.{keeps_start, reading_start}
use Rattle.pickle_machine.proofs.slim.Slim.new.Goals as goal

pub invariant_of-result : goal.invariant_of-result
invariant_of-result c =
    rw c.new.ensures (keeps_start c.args.many c.args.bytes.now c.new-2.result c.new-3.result.items c.new-4.result.items c.new-2.ensures c.new-3.ensures.items c.new-4.ensures.items c.requires)

pub returns : goal.returns
returns c = rw c.new.ensures (reading_start c.args.many c.args.bytes.now)
