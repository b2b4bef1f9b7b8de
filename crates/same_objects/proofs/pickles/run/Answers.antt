use Rattle.std.proofs.Common.{refl, arith, false}
use Rattle.pickle_text.proofs.Sources.{bytes_give}
use Rattle.same_objects.proofs.pickles.run.Goals as goal

pub walk_items-requires : goal.walk_items-requires
walk_items-requires c κs =
    ((refl, tt), (c.requires.start, rw c.new_as.ensures (bytes_give c.args.many false c.args.bytes.now (λ i. omega (arith, c.type_inv.bytes i)) c.requires.few)))
