use Rattle.std.proofs.Common.{refl, arith}
use Rattle.pickle_text.proofs.Sources.{bytes_give}
use Rattle.same_objects.proofs.acts.write_acts.Goals as goal

pub run_items-requires : goal.run_items-requires
run_items-requires g c κs =
    ((refl, tt), (rw c.new.ensures (bytes_give _ _ c.args.bytes.now (λ i. omega (arith, c.type_inv.bytes i)) c.requires), (rw c.new.ensures refl, (rw c.new-machine.ensures refl, rw (c.new.ensures, c.new-machine.ensures) (refl, refl)))))
