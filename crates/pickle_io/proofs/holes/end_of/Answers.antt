use Rattle.std.proofs.Common.{◌-◌, length, sym, arith}
use Rattle.pickle_io.specs.declared.hole.Hole.{Hole}
use Rattle.pickle_io.proofs.Placed.{placed, end_is, none_ends}
use Rattle.pickle_io.proofs.holes.end_of.Goals as goal

none : Hole
none = record { offset = 0; size = 0 }

pub returns-then-is_empty : goal.returns-then-is_empty
returns-then-is_empty c = sym (none_ends 0 c.args.holes.now (grind arith))

pub overflow_add-result : goal.overflow_add-result
overflow_add-result c =
    let p = placed (length c.args.holes.now - 1) 0 0 c.args.holes.now (record { offset = 0; size = 0 }) 0 c.requires (omega arith) (grind arith) in
    omega (arith, p.ends)

pub returns : goal.returns
returns c = sym (end_is 0 c.args.holes.now (length c.args.holes.now - 1) (record { offset = 0; size = 0 }) (grind arith))
