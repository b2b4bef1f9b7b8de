use Rattle.std.proofs.Common.{arith}
use Rattle.pickle_io.proofs.Placed.{placed}
use Rattle.pickle_io.proofs.holes.Holes.first_outside.Goals as goal

pub overflow_add-hole : goal.overflow_add-hole
overflow_add-hole c =
    rw c.as_slice-hole-items.ensures.holes (let p = placed c.loop-hole.hole-index 0 0 c.args.self.now (record { offset = 0; size = 0 }) 0 c.as_slice-hole-items.ensures.apart (omega arith) (grind arith) in omega (arith, p.ends))
